-- `dial_rows::class_first` meets its contract: what the scan finds is the first of the class's, or nothing, and then the end.
use Rattle.std.proofs.Common.{rules, ◌≡◌, ◌∙◌, ap}
use Rattle.scan.specs.First.{first}
use Rattle.layout.specs.Layout.{privileges, count_of}
use Rattle.dial_rows.specs.Class.{is_of, of_in, ahead_first}
use Rattle.dial_rows.proofs.class_first.Goals as goal

pub returns : goal.returns
returns c =
    let asked = c.first.ensures (is_of c.args.image.now c.args.class) (λ i b h e. search (rules, of_in)) in
    let found : c.first.result ≡ first (is_of c.args.image.now c.args.class) (count_of c.args.image.now privileges) =
    asked ∙ ap (first (is_of c.args.image.now c.args.class)) c.count_of-count.ensures.gives in
    rw (c.unwrap_or.ensures, c.count_of-count.ensures.gives) (ahead_first _ _ _ found)

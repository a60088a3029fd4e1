-- The short way of a plain image: of refusals 5 to 14 only 11, 12 and 14 are left.
use Rattle.std.specs.Prelude.{ℕ, Bool, true, false, not, ◌&&◌, List, [], ◌∷◌, ◌≡◌}
use Rattle.std.proofs.lemmas.Bool.{not-true}
use Rattle.codes.specs.declared.Refusal.TheVariants as refusal
use Rattle.codes.specs.Refusal.{Test, test, refusal_of}
use Rattle.scan.specs.Laws.{and_true}
use Rattle.layout.specs.Layout.{general_of}
use Rattle.table.specs.Table.{Table, table_of}
use Rattle.find.specs.Question.{homeless_of}
use Rattle.plain.specs.Plain.{is_rough}
use Rattle.plain.specs.Laws.{none_miscoded, none_unsound, bands_lengthy, segments_lengthy, automatic_lengthy, privileges_lengthy, segments_limited}
use Rattle.image.specs.Check.{coded_block, miscoded, sound_block, unsound, bare, unlimited, content_tests}

unfoldable pub plain_image : List ℕ → Bool
plain_image l = coded_block (table_of l) && (sound_block (general_of l) && not (is_rough l))

abbrev pub left_tests : Table → List Test
left_tests table = test refusal.EmptyTable (bare table) ∷ test refusal.SegmentOutside (homeless_of table false) ∷ test refusal.GeneralLimit (unlimited table.general) ∷ []

pub plain_smooth : (l : List ℕ) → plain_image l ≡ true → is_rough l ≡ false
unfolding plain_image
plain_smooth l e =
    let a = and_true (coded_block (table_of l)) (sound_block (general_of l) && not (is_rough l)) e in
    let b = and_true (sound_block (general_of l)) (not (is_rough l)) a.1 in
    not-true (is_rough l) b.1

pub plain_left : (l : List ℕ) → plain_image l ≡ true → refusal_of (content_tests (table_of l)) ≡ refusal_of (left_tests (table_of l))
unfolding plain_image miscoded unsound
plain_left l e =
    let a = and_true (coded_block (table_of l)) (sound_block (general_of l) && not (is_rough l)) e in
    let b = and_true (sound_block (general_of l)) (not (is_rough l)) a.1 in
    let coded : coded_block (table_of l) ≡ true = a.0 in
    let sound : sound_block (general_of l) ≡ true = b.0 in
    let smooth : is_rough l ≡ false = plain_smooth l e in
    rw coded
    (rw (none_miscoded l smooth)
    (rw sound
    (rw (none_unsound l smooth)
    (rw (bands_lengthy l smooth)
    (rw (segments_lengthy l smooth)
    (rw (automatic_lengthy l smooth)
    (rw (privileges_lengthy l smooth)
    (rw (segments_limited l smooth)))))))))

-- The ranges of one table against a window.
use Rattle.std.specs.Prelude.{ℕ, zero, suc, ◌-◌, Bool, true, cond, List, [], ◌∷◌, eqb, Option, Some, None}
use Rattle.profile.specs.Range.{intersect_of}
use Rattle.profile.specs.declared.Range.{Range}
use Rattle.layout.specs.declared.Record.{Record}
use Rattle.table.specs.Parts.{span_of}

-- the records that count: all, or those of a class
abbrev pub is_member : Option ℕ → Record → Bool
is_member None r = true
is_member (Some n) r = eqb r.class n

-- the stretch of positive length that a record shares with a window, if it counts
unfoldable pub shared_with : Option ℕ → Range → Record → Option Range
shared_with m window r = cond (is_member m r) (intersect_of (span_of r) window) None

-- by what is shared: one thing of a stretch, another where there is none
abbrev pub on_shared : {A : Type 0} → Option Range → (Range → A) → A → A
on_shared (Some x) f a = f x
on_shared None f a = a

-- the first of the n records from i on that shares a stretch, and the stretch; `at` gives the record at an index
unfoldable pub swept_from : (ℕ → Record) → Option ℕ → Range → ℕ → ℕ → Option (ℕ × Range)
swept_from at m window zero i = None
swept_from at m window (suc n) i = on_shared (shared_with m window (at i)) (λ x. Some (i, x)) (swept_from at m window n (suc i))

-- of n records in all, those from i on
abbrev pub sweep : (ℕ → Record) → Option ℕ → Range → ℕ → ℕ → Option (ℕ × Range)
sweep at m window n i = swept_from at m window (n - i) i

-- what record j gives: something of the stretch that it shares with a window, if it shares one
abbrev pub gives : {A : Type 0} → (ℕ → Record) → Option ℕ → Range → (ℕ → Range → A) → ℕ → List A
gives at m window g j = on_shared (shared_with m window (at j)) (λ x. g j x ∷ []) []

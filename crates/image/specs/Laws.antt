-- Laws of the check: its tests from one on, that an accepted image is whole, and that its image is its bytes.
use Rattle.std.specs.Prelude.{ℕ, suc, zero, List, [], ◌∷◌, ◌≡◌, refl, Result, Ok, Err}
use Rattle.std.proofs.Common.{sym, arith}
use Rattle.codes.specs.declared.Refusal.{Refusal}
use Rattle.codes.specs.Refusal.{Checked, Test}
use Rattle.codes.specs.Laws.{refusal_both}
use Rattle.layout.specs.Form.{form_tests, Whole}
use Rattle.layout.specs.Laws.{whole_of}
use Rattle.table.specs.Table.{table_of}
use Rattle.image.specs.Check.{content_tests, check_of, image_or}

-- the tests from one on
abbrev pub tests_from : ℕ → List Test → List Test
tests_from zero ts = ts
tests_from (suc n) [] = []
tests_from (suc n) (t ∷ ts) = tests_from n ts

-- An accepted image is whole.
pub accepted_whole : (l : List ℕ) → check_of l ≡ Ok tt → Whole l
unfolding check_of
accepted_whole l e = whole_of l (refusal_both (form_tests l) (content_tests (table_of l)) e).0

-- ---- the image of accepted bytes

refused_not : {l : List ℕ} {n : Refusal} → ◌≡◌ {A = Result (List ℕ) Refusal} (Err n) (Ok l) → ⊥
refused_not e = let z : ◌≡◌ {A = ℕ} 0 1 = cc in omega arith

pub image_or_ok : (l image : List ℕ) (c : Checked) → image_or l c ≡ Ok image → (c ≡ Ok tt) × (image ≡ l)
image_or_ok l image (Ok tt) e = (refl, cc)
image_or_ok l image (Err n) e = absurd (refused_not e)

pub image_or_err : (l : List ℕ) (c : Checked) (n : Refusal) → image_or l c ≡ Err n → c ≡ Err n
image_or_err l (Ok tt) n e = absurd (refused_not (sym e))
image_or_err l (Err m) n e = cc

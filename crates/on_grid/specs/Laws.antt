-- Whether a figure is in eighths, by any fraction that is its value.
use Rattle.std.specs.Prelude.{ℕ, ◌+◌, ◌*◌, ◌/◌, ◌%◌, ◌^◌, ◌≤◌, ◌<◌, Bool, true, false, not, ◌&&◌, ◌≡◌, refl, eqb, Float}
use Rattle.std.proofs.Common.{sym, ap, ◌∙◌, mul_right_comm, mod-eq_of_lt, div-add-mod', arith, eq-eqb, eqb-true, pow_mono}
use Rattle.std.proofs.Math.Nat.{eq_of_mul-eq-mul_right, mul-mod_left}
use Rattle.std.proofs.Math.Pow.{split}
use Rattle.std.specs.Float.{nan, inf, fin}
use Rattle.std.specs.Float.Ieee.{up, down, of_bits, lt, le, eq}
use Rattle.std.specs.Float.Ieee.Exact.{HasValue}
use Rattle.std.specs.Float.Ieee.Fits.{down_pos}
use Rattle.eighths.specs.Grid.{in_eighths}
use Rattle.figures.specs.Figure.{in_size, figure_of}
use Rattle.decimal.specs.Within.{Within, in_size_power, within_more}
use Rattle.decimal.specs.Laws.{moved_back}
use Rattle.scan.specs.First.{some}
use Rattle.layout.specs.Layout.{tables}
use Rattle.layout.specs.declared.General.{General}
use Rattle.table.specs.Table.{Table}
use Rattle.on_grid.specs.Within.{limit38, figure_met, block_met, unmet_in, figures_met}

same : (a b : Bool) → (a ≡ true → b ≡ true) → (b ≡ true → a ≡ true) → a ≡ b
same true b f g = sym (f refl)
same false true f g = g refl
same false false f g = refl

-- n / c and n' / c' are one fraction: where the one is whole the other is
whole_too : (n c n' c' : ℕ) → 0 < c' → n * c' ≡ n' * c → n' % c' ≡ 0 → n % c ≡ 0
whole_too n c n' c' p e h =
    let q = n' / c' in
    let d : q * c' + n' % c' ≡ n' = div-add-mod' n' c' in
    let m : n' ≡ q * c' = omega (arith, d, h) in
    let k : n ≡ q * c = eq_of_mul-eq-mul_right c' p n (q * c) (e ∙ ap (λ (z : ℕ). z * c) m ∙ mul_right_comm q c' c) in
    ap (λ (z : ℕ). z % c) k ∙ mul-mod_left q c

pub in_eighths_by : (x : Float) (s : Bool) (d c : ℕ) → 0 < c → HasValue x s d c → eqb (d * 8 % c) 0 ≡ in_eighths x
unfolding in_eighths
in_eighths_by nan s d c p v = absurd v
in_eighths_by (inf t) s d c p v = absurd v
in_eighths_by (fin t m e) s d c p v =
    let a : d * 8 * down e ≡ m * up e * 8 * c =
    mul_right_comm d 8 (down e) ∙ ap (λ (n : ℕ). n * 8) (sym v.1) ∙ mul_right_comm (m * up e) c 8 in
    same (eqb (d * 8 % c) 0) (eqb (m * up e * 8 % down e) 0)
    (λ h. eq-eqb _ _ (whole_too (m * up e * 8) (down e) (d * 8) c p (sym a) (eqb-true _ _ h)))
    (λ h. eq-eqb _ _ (whole_too (d * 8) c (m * up e * 8) (down e) (down_pos e) a (eqb-true _ _ h)))

-- the remainder, by shifts of 64 bits
pub whole_far : (n shift : ℕ) → n < 2 ^ 63 → 63 < shift → eqb n 0 ≡ eqb (n % 2 ^ shift) 0
whole_far n shift h k =
    let a : 2 ^ 64 ≤ 2 ^ shift = pow_mono k in
    let r : n % 2 ^ shift ≡ n = mod-eq_of_lt (omega (arith, h, a)) in
    ap (λ (m : ℕ). eqb m 0) (sym r)

pub whole_near : (n s : ℕ) → n < 2 ^ 63 → s ≤ 63 → eqb n (n / 2 ^ s * 2 ^ s % 18446744073709551616) ≡ eqb (n % 2 ^ s) 0
whole_near n s h k =
    let b = moved_back n s h k in
    let p = split n s in
    let back = n / 2 ^ s * 2 ^ s % 18446744073709551616 in
    same (eqb n back) (eqb (n % 2 ^ s) 0)
    (λ e. let f = eqb-true n back e in eq-eqb (n % 2 ^ s) 0 (omega (arith, f, b, p)))
    (λ e. let f = eqb-true (n % 2 ^ s) 0 e in eq-eqb n back (omega (arith, f, b, p)))

-- what the size test says
pub size_within : (x : Float) → in_size limit38 x ≡ true → Within 43 x
unfolding of_bits
size_within x h = within_more 38 43 (omega arith) x (in_size_power 38 x h)

-- a table, by its block and its records
pub block_not : (table : Table) (g : General) → g ≡ table.general → block_met g ≡ false → false ≡ figures_met table
unfolding figures_met
block_not table g e h = ap (λ (b : Bool). b && not (some (unmet_in table) tables)) (sym h ∙ ap block_met e)

pub block_met_holds : (table : Table) (g : General) → g ≡ table.general → block_met g ≡ true → not (some (unmet_in table) tables) ≡ figures_met table
unfolding figures_met
block_met_holds table g e h = ap (λ (b : Bool). b && not (some (unmet_in table) tables)) (sym h ∙ ap block_met e)

-- nought
pub nought_met : true ≡ figure_met (figure_of 0)
unfolding figure_met in_eighths lt le eq of_bits
nought_met = refl

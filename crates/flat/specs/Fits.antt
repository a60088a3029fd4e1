-- What must hold of an answer for its numbers to fit into the flat records.
use Rattle.std.specs.Prelude.{ℕ, ◌<◌, ◌≡◌, refl, Option, Some, None}
use Rattle.std.proofs.Common.{arith, SFits}
use Rattle.std.specs.Int.{w32}
use Rattle.decision.specs.declared.Decision.{Decision}
use Rattle.ceiling.specs.Ceiling.{rung_number}
use Rattle.flat.specs.Flat.{guidance_index_of}

-- an answer whose guidance has an index below 256, or none
abbrev pub Indexed : Decision → Type 0
Indexed d = guidance_index_of d.advice.guidance < 256

-- what the boundary asks of a rung
abbrev pub RungFits : Option ℕ → Type 0
RungFits k = (i : ℕ) → k ≡ Some i → i < 256

-- its number, -1 included, fits in 32 bits with a sign
pub rung_signed : (k : Option ℕ) → RungFits k → SFits w32 (rung_number k)
rung_signed (Some i) h = record { sfits = omega (arith, h i refl) }
rung_signed None h = record { sfits = omega arith }

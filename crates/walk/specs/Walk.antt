-- A walk of rungs, a rung a step, under the one of two images that was in force as it was opened (document 02, 10).
use Rattle.codes.specs.declared.Refusal.{Refusal}
use Rattle.codes.specs.declared.Refusal.TheVariants as refusal
use Rattle.std.specs.Prelude.{ℕ, Bool, not, cond, ◌&&◌, ◌||◌, List, [], ◌∷◌, eqb, ltb, Ok, Err}
use Rattle.codes.specs.Refusal.{Checked, Test, test, refusal_of}
use Rattle.figures.specs.Figure.{zero_hz}
use Rattle.profile.specs.Range.{range}
use Rattle.occupancy.specs.declared.Edges.{Edges}
use Rattle.entry.specs.Entry.{edges_valid, edges_read}
use Rattle.walk.specs.declared.WalkState.{WalkState}
use Rattle.walk.specs.declared.WalkAnswer.{WalkAnswer}

-- ---- states

abbrev pub no_edges : Edges
no_edges = record { power = range zero_hz zero_hz; spectral = range zero_hz zero_hz }

-- nobody is walking, and image n is in force
abbrev pub resting : ℕ → WalkState
resting n = record { occupied = no_edges; place = 0; image = n; waiting = 0; walking = 0 }

-- "Image 0 is in force at first …"
abbrev pub first_state : WalkState
first_state = resting 0

-- "… and a swap changes to the other of the two."
abbrev pub other_image : ℕ → ℕ
other_image n = cond (eqb n 0) 1 0

-- A state that a call gives: each number among its values; with no walk open no swap waits and no rung was judged; and the edges of rungs that
-- were judged are such as 15 lets pass.
unfoldable pub state_valid : WalkState → Bool
state_valid w =
    not (ltb 1 w.image) && (not (ltb 1 w.waiting) && (not (ltb 1 w.walking) && (not (ltb 255 w.place)
    && cond (eqb w.walking 0) (eqb w.waiting 0 && eqb w.place 0) (eqb w.place 0 || edges_valid w.occupied))))

-- what the rungs judged so far occupy: read as edges are, and nothing where none was judged
abbrev pub occupied_read : WalkState → Edges
occupied_read w = cond (eqb w.place 0) no_edges (edges_read w.occupied)

-- ---- swap and open

-- "A refusal by any number leaves the state unchanged."
abbrev pub state_unless_refused : Checked → WalkState → WalkState → WalkAnswer
state_unless_refused (Ok tt) w next = record { refusal = Ok tt; state = next }
state_unless_refused (Err n) w next = record { refusal = Err n; state = w }

-- what a call refuses of a state: what the call itself rules out, then a state that no call gives
abbrev pub state_tests : WalkState → Bool → Refusal → List Test
state_tests w ruled_out n = test n ruled_out ∷ test refusal.StationCode (not (state_valid w)) ∷ []

-- "It refuses (29) a second swap while one waits"
abbrev pub swap_tests : WalkState → List Test
swap_tests w = state_tests w (eqb w.waiting 1) refusal.SecondSwap

-- "A table with nobody walking takes force immediately"; else it waits
unfoldable pub swapped : WalkState → WalkState
swapped w =
    cond (eqb w.walking 1) (record { occupied = occupied_read w; place = w.place; image = w.image; waiting = 1; walking = 1 })
    (resting (other_image w.image))

unfoldable pub swap_of : WalkState → WalkAnswer
swap_of w = state_unless_refused (refusal_of (swap_tests w)) w (swapped w)

-- "and (30, next) … an opening while one is open"
abbrev pub open_tests : WalkState → List Test
open_tests w = state_tests w (eqb w.walking 1) refusal.Walk

-- a walk that begins under image n
abbrev pub opened_at : ℕ → WalkState
opened_at n = record { occupied = no_edges; place = 0; image = n; waiting = 0; walking = 1 }

unfoldable pub open_of : WalkState → WalkAnswer
open_of w = state_unless_refused (refusal_of (open_tests w)) w (opened_at w.image)

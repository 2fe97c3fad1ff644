-- When two ends stand for the two sides of a run.
use Rattle.std.specs.Prelude.{◌≡◌, ◌≤◌, ℕ, List, ◌++◌, length, take, drop, Bool, false, if◌then◌else◌}
use Rattle.mux_items.specs.Due.{got}
use Rattle.mux_items.specs.Refusals.{is_ready}
use Rattle.mux_run.specs.declared.steps.Side.{Side}
use Rattle.mux_run.specs.declared.steps.Side.TheVariants.{A, B}
use Rattle.mux_run.specs.Run.{RunSide, Terms, SideTerms, terms_at_a, terms_at_b, turned, out, place_after, in_flight}
use Rattle.endpoint_items.specs.Layers.{mux_of}
use Rattle.endpoint.specs.Stands.{Stands}
use Rattle.endpoint.specs.Value.{EndpointValue}
use Rattle.endpoint_run.specs.declared.steps.Step.{Step}
use Rattle.endpoint_run.specs.Answers.{run}
use Rattle.endpoint_run.specs.Run.{EndSide, EndWorld, mux_side}
use Rattle.duo_world.specs.Ranges.{AreInRange}
use Rattle.mux_items.specs.Limits.{nonce_size}

-- the place of the first byte from y that x hasn't applied
abbrev pub place_of : SideTerms → RunSide → RunSide → ℕ
place_of w x y = if is_ready w.version x.items then place_after w (length (got x.items)) y else 0

-- the bytes that were given to x and aren't applied
abbrev pub rest_of : SideTerms → RunSide → RunSide → List ℕ
rest_of w x y = drop (place_of w x y) (take x.delivered (out w.version w.peer y.items))

-- the end is as the side x leaves it, and its output is what was emitted and isn't delivered yet to y, a multiplexing end
pub record StandsForSide (w : SideTerms) (end : EndpointValue) (x : EndSide) (y : RunSide) : Type 0 where
  pub stands : Stands end x.items (place_of w (mux_side w.version x) y) (rest_of w (mux_side w.version x) y)
  pub in_range : AreInRange w (mux_of w.version x.items)
  pub output : take y.delivered (out w.version w.own (mux_of w.version x.items)) ++ end.mux.output ≡ out w.version w.own (mux_of w.version x.items)
  pub bound : y.delivered ≤ length (out w.version w.own (mux_of w.version x.items))
  pub version : end.mux.version ≡ w.version
  pub nonce : end.mux.nonce ≡ w.own

-- two ends are as the sides x and y leave them
pub record StandForSides (w : SideTerms) (own peer : EndpointValue) (x y : EndSide) : Type 0 where
  pub at_own : StandsForSide w own x (mux_side w.version y)
  pub at_peer : StandsForSide (turned w) peer y (mux_side w.version x)

-- the same of the ends A and B, and the two sides of a world
abbrev pub StandForWorld : Terms → (a b : EndpointValue) → EndWorld → Type 0
StandForWorld terms a b w = StandForSides (terms_at_a terms) a b w.a w.b

-- the value of a Duo: its terms, its two ends, the steps that were made, and whether memory ran out in one
pub record DuoState : Type 0 where
  pub terms : Terms
  pub a : EndpointValue
  pub b : EndpointValue
  pub steps : List Step
  pub failed : Bool

-- both ends stand for the run of the steps
abbrev pub StandsForRun : DuoState → Type 0
StandsForRun d = StandForWorld d.terms d.a d.b (run d.terms d.steps)

-- nonces have their size
pub record HaveNonces (w : SideTerms) : Type 0 where
  pub own : length w.own ≡ nonce_size
  pub peer : length w.peer ≡ nonce_size

-- a Duo in which memory didn't run out stands for its run
pub record IsWorking (d : DuoState) : Type 0 where
  pub nonces : HaveNonces (terms_at_a d.terms)
  pub stands : StandsForRun d

-- of a Duo in which memory ran out nothing is promised
abbrev pub DuoHolds : DuoState → Type 0
DuoHolds d = d.failed ≡ false → IsWorking d

-- the end of a side
abbrev pub end_of : Side → DuoState → EndpointValue
end_of A d = d.a
end_of B d = d.b

-- the output of the end that a side hears
abbrev pub output_to : Side → DuoState → List ℕ
output_to A d = d.b.mux.output
output_to B d = d.a.mux.output

-- the bytes on their way to a side of a world
abbrev pub flight_to : Side → Terms → EndWorld → List ℕ
flight_to A terms w = in_flight (terms_at_a terms) (mux_side terms.version w.a) (mux_side terms.version w.b)
flight_to B terms w = in_flight (terms_at_b terms) (mux_side terms.version w.b) (mux_side terms.version w.a)

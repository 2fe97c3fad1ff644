-- An end that applies what is whole of the bytes that it was given.
use Rattle.std.specs.Prelude.{◌≡◌, ◌≤◌, ℕ, List, length}
use Rattle.mux_run.specs.Run.{RunSide, SideTerms, turned}
use Rattle.endpoint_items.specs.Items.{EndItem}
use Rattle.endpoint.specs.Value.{EndpointValue}
use Rattle.endpoint_run.specs.declared.answers.SideEvent.{SideEvent}
use Rattle.endpoint_run.specs.Answers.{events_since}
use Rattle.endpoint_run.specs.Midway.{IsMidway}
use Rattle.endpoint_run.specs.Run.{EndSide}
use Rattle.duo_world.specs.Ranges.{AreInRange}
use Rattle.duo_world.specs.Holding.{StandsForSide, HaveNonces}

-- a side with these items, to which so many bytes were delivered
abbrev pub side_with : List EndItem → (delivered : ℕ) → EndSide
side_with items delivered = record { items = items; delivered = delivered }

-- in the midst of a step: an end stands for such items, of which more may be applied, and these are the events of those
-- that are newer than the oldest so many
pub record IsMidStep (w : SideTerms) (delivered older : ℕ) (own : EndpointValue) (events : List SideEvent) (items : List EndItem) (y : RunSide) : Type 0 where
  pub nonces : HaveNonces w
  pub midway : IsMidway w delivered y items
  pub stands : StandsForSide w own (side_with items delivered) y
  pub peer_in_range : AreInRange (turned w) y.items
  pub newer : older ≤ length items
  pub events_are : events ≡ events_since w.version older items

-- the step is done: the end stands for the side x, with the events of its newer items
pub record IsSettled (w : SideTerms) (older : ℕ) (own : EndpointValue) (events : List SideEvent) (x : EndSide) (y : RunSide) : Type 0 where
  pub stands : StandsForSide w own x y
  pub events_are : events ≡ events_since w.version older x.items

-- What each step of a run answers.
use Rattle.std.specs.Prelude.{◌≡◌, ℕ, List, [], ◌∷◌, ◌++◌, length, nat_lt, not, if◌then◌else◌, Option, Some, None}
use Rattle.wire_base.specs.declared.frame.Version.{Version}
use Rattle.wire_base.specs.declared.state.Cause.TheVariants as cause
use Rattle.mux_items.specs.declared.channel.MuxEvent.{MuxEvent}
use Rattle.mux_items.specs.Applying.{event_of, place_at}
use Rattle.mux_items.specs.Items as mux
use Rattle.mux_run.specs.Run.{Terms, SideTerms, terms_at_a, terms_at_b, added, is_spent}
use Rattle.mux_run.specs.declared.steps.Side.{Side}
use Rattle.mux_run.specs.declared.steps.Side.TheVariants.{A, B}
use Rattle.rpc_items.specs.Events as rpc
use Rattle.endpoint_items.specs.declared.event.EndEvent.TheVariants as event
use Rattle.endpoint_items.specs.Asked.{made_by, reply_to}
use Rattle.endpoint_items.specs.Calls.{EndCall}
use Rattle.endpoint_items.specs.Connections.{items_of}
use Rattle.endpoint_items.specs.Items.{EndItem, Mux, GotMessage, RefusedMessage}
use Rattle.endpoint_items.specs.Layers.{mux_of, rpc_of}
use Rattle.endpoint_run.specs.declared.answers.DuoAnswer.{DuoAnswer}
use Rattle.endpoint_run.specs.declared.answers.DuoAnswer.TheVariants as duo
use Rattle.endpoint_run.specs.declared.answers.SideEvent.{SideEvent}
use Rattle.endpoint_run.specs.declared.answers.SideEvent.TheVariants as side_event
use Rattle.endpoint_run.specs.declared.steps.Step.{Step}
use Rattle.endpoint_run.specs.declared.steps.Step.TheVariants as step
use Rattle.endpoint_run.specs.Run.{EndSide, EndWorld, EndStep, Calls, Delivers, Ends, mux_side, runs, side_after, happens, end_run}

abbrev pub mux_events : Option MuxEvent → List SideEvent
mux_events (Some e) = side_event.Happened (event.Mux e) ∷ []
mux_events None = []

-- the events of the newest item; calls and attached connections have none
abbrev pub events_of : Version → EndItem → List EndItem → List SideEvent
events_of v (Mux (mux.End why)) items = side_event.Ended why ∷ []
events_of v (Mux item) items = mux_events (event_of v item (mux_of v items))
events_of v (GotMessage c place size message) items = side_event.Happened (event.Rpc c (rpc.event_of message (items_of (rpc_of v c items)))) ∷ []
events_of v (RefusedMessage c place r) items = side_event.Happened (event.RpcEnded c (cause.Refused (place_at place) r)) ∷ []
events_of v item items = []

-- the events of the items that are newer than the oldest so many, oldest first
abbrev pub events_since : Version → (older : ℕ) → List EndItem → List SideEvent
events_since v older [] = []
events_since v older (item ∷ items) = if nat_lt (length items) older then [] else events_since v older items ++ events_of v item items

-- the step of a run that is made; a question makes none
abbrev pub called_step : Side → Option EndCall → Option EndStep
called_step side (Some c) = Some (Calls side c)
called_step side None = None

abbrev pub made_step : Step → Option EndStep
made_step (step.Call side asked) = called_step side (made_by asked)
made_step (step.Deliver side n) = Some (Delivers side n)
made_step (step.End side) = Some (Ends side)

abbrev pub if_made : Option EndStep → List EndStep → List EndStep
if_made (Some made) rest = made ∷ rest
if_made None rest = rest

abbrev pub made_steps : List Step → List EndStep
made_steps [] = []
made_steps (s ∷ steps) = if_made (made_step s) (made_steps steps)

-- the events of the newer ones of items, oldest first
abbrev pub events_after : Version → (older newer : List EndItem) → List SideEvent
events_after v older [] = []
events_after v older (item ∷ newer) = events_after v older newer ++ events_of v item (newer ++ older)

-- how many bytes a delivery of at most n to x answers
abbrev pub delivered_count : SideTerms → (n : ℕ) → EndSide → EndSide → ℕ
delivered_count w n x y =
    if not (runs w.version x) then 0
    else if is_spent w n (mux_side w.version x) (mux_side w.version y) then 0
    else added w n (mux_side w.version x) (mux_side w.version y)

-- what a step makes of its side x; a question leaves it
abbrev pub side_by : SideTerms → Option EndStep → EndSide → EndSide → EndSide
side_by w (Some s) x y = side_after w s x y
side_by w None x y = x

-- what a step makes of both sides
abbrev pub world_by : Terms → Option EndStep → EndWorld → EndWorld
world_by terms (Some s) w = happens terms s w
world_by terms None w = w

-- the events of a step at x
abbrev pub events_in : SideTerms → EndStep → EndSide → EndSide → List SideEvent
events_in w s x y = events_since w.version (length x.items) (side_after w s x y).items

abbrev pub events_if : SideTerms → Option EndStep → EndSide → EndSide → List SideEvent
events_if w (Some s) x y = events_in w s x y
events_if w None x y = []

-- what a step at x answers
abbrev pub answer_at : SideTerms → Step → EndSide → EndSide → DuoAnswer
answer_at w (step.Call side asked) x y = duo.Replied (reply_to w.version asked x.items) (events_if w (called_step side (made_by asked)) x y)
answer_at w (step.Deliver side n) x y = duo.Delivered (delivered_count w n x y) (events_in w (Delivers side n) x y)
answer_at w (step.End side) x y = duo.Ended

abbrev pub side_of : Step → Side
side_of (step.Call side asked) = side
side_of (step.Deliver side n) = side
side_of (step.End side) = side

abbrev pub answer_on : Terms → Side → Step → EndWorld → DuoAnswer
answer_on terms A s w = answer_at (terms_at_a terms) s w.a w.b
answer_on terms B s w = answer_at (terms_at_b terms) s w.b w.a

-- what a step answers, made in this world
abbrev pub answer : Terms → Step → EndWorld → DuoAnswer
answer terms s w = answer_on terms (side_of s) s w

-- both sides after these steps
abbrev pub run : Terms → List Step → EndWorld
run terms steps = end_run terms (made_steps steps)

-- a step adds items to its side x, and tells the events of just these
pub record TellsOfNew (w : SideTerms) (s : EndStep) (x y : EndSide) : Type 0 where
  pub newer : List EndItem
  pub items_are : (side_after w s x y).items ≡ newer ++ x.items
  pub events_are : events_in w s x y ≡ events_after w.version x.items newer

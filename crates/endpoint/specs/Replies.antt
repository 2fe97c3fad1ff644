-- What calls and steps of an end with connections answer, and what they leave.
use Rattle.std.specs.Prelude.{◌≡◌, ℕ, ◌+◌, List, [], ◌∷◌, ◌++◌, drop, Bool, true, false, not, ◌&&◌, if◌then◌else◌, Option, Some, None, Result, Ok, Err}
use Rattle.wire_base.specs.declared.fault.CallFault.{CallFault}
use Rattle.wire_base.specs.declared.fault.CallFault.TheVariants as fault
use Rattle.wire_base.specs.declared.frame.Version.{Version}
use Rattle.wire_base.specs.declared.out_of_memory.OutOfMemory.{OutOfMemory}
use Rattle.wire_base.specs.declared.refusal.Refusal.{Refusal}
use Rattle.wire_base.specs.declared.refusal.Refusal.TheVariants as refusal
use Rattle.wire_base.specs.declared.state.Cause.{Cause}
use Rattle.wire_base.specs.declared.state.Cause.TheVariants as cause
use Rattle.wire_base.specs.declared.state.EndState.{EndState}
use Rattle.wire_base.specs.declared.state.EndState.TheVariants as state
use Rattle.frame_text.specs.Hello.{hello}
use Rattle.mux_items.specs.declared.channel.MuxEvent.TheVariants as mux_event
use Rattle.mux_items.specs.Applying.{item_of_frame, event_of}
use Rattle.mux_items.specs.Bodies.{ChannelFrame, frame_texts}
use Rattle.mux_items.specs.Due.{sent}
use Rattle.mux_items.specs.Items.{Item, Hello, End}
use Rattle.mux_end.specs.Arrivals.{Arrival, Greets, Applies, Waits, Refuses, arrival, refused_at}
use Rattle.mux_end.specs.Replies.{KeepsTerms}
use Rattle.rpc_items.specs.Events as rpc
use Rattle.rpc_items.specs.Saying.{emits}
use Rattle.rpc_end.specs.Replies as rpc_end
use Rattle.endpoint_items.specs.Items.{EndItem, Mux, GotMessage, RefusedMessage}
use Rattle.endpoint_items.specs.Connections.{was_attached, items_of}
use Rattle.endpoint_items.specs.Layers.{mux_of, rpc_of}
use Rattle.endpoint_items.specs.Calls.{EndCall, OfConnection, call_refusal, is_spent_on, item_of}
use Rattle.endpoint_items.specs.declared.event.EndEvent.TheVariants as event
use Rattle.endpoint.specs.declared.step.EndStep.{EndStep}
use Rattle.endpoint.specs.declared.step.EndStep.TheVariants as step
use Rattle.endpoint.specs.Stands.{Stands}
use Rattle.endpoint.specs.Value.{EndpointValue}

-- the output grows by the frames that became due as the items grew
pub record Sends (v : Version) (before after : List Item) (old new : List ℕ) : Type 0 where
  pub frames : List ChannelFrame
  pub sent_are : sent v after ≡ sent v before ++ frames
  pub output : new ≡ old ++ frame_texts v frames

-- an end without connections, whose output is its hello
pub record IsStarted (v : Version) (nonce : List ℕ) (end : EndpointValue) : Type 0 where
  pub stands : Stands end [] 0 []
  pub output : end.mux.output ≡ hello v nonce
  pub version : end.mux.version ≡ v
  pub own_nonce : end.mux.nonce ≡ nonce

-- an end goes from old, which stood for the items, to new, which stands for one more
pub record Adds (old new : EndpointValue) (items : List EndItem) (at : ℕ) (rest : List ℕ) (item : EndItem) : Type 0 where
  pub stands : Stands new (item ∷ items) at rest
  pub sends : Sends old.mux.version (mux_of old.mux.version items) (mux_of old.mux.version (item ∷ items)) old.mux.output new.mux.output
  pub terms : KeepsTerms old.mux new.mux

-- why a call is refused before what it would say is written
abbrev pub early_refusal : Version → EndCall → List EndItem → Option Refusal
early_refusal v (OfConnection c call) items =
    if not (was_attached (rpc_of v c items)) then Some refusal.NotAttached
    else if emits call && is_spent_on c (mux_of v items) then Some refusal.BytesSpent
    else rpc_end.early_refusal call (items_of (rpc_of v c items))
early_refusal v call items = call_refusal v call items

-- a call is refused exactly as the rules say, and then changes nothing; else it adds its item and answers so. Want of
-- memory may come first only where what the call says has to be written
abbrev pub AnswersBy : {A : Type 0} → EndpointValue → EndpointValue → List EndItem → ℕ → List ℕ → EndCall → (refused early : Option Refusal) → (A → Type 0) → Result A CallFault → Type 0
AnswersBy old new items at rest call None early IsAnswer (Ok x) = Adds old new items at rest (item_of old.mux.version call items) × IsAnswer x
AnswersBy old new items at rest call (Some r) early IsAnswer (Err (fault.Refused s)) = (s ≡ r) × (new ≡ old)
AnswersBy old new items at rest call refused None IsAnswer (Err fault.OutOfMemory) = new.state ≡ state.Stopped
AnswersBy old new items at rest call refused early IsAnswer result = ⊥

-- what a call of an end that stood for these items answers
abbrev pub Answers : {A : Type 0} → EndpointValue → EndpointValue → List EndItem → ℕ → List ℕ → EndCall → (A → Type 0) → Result A CallFault → Type 0
Answers old new items at rest call IsAnswer result = AnswersBy old new items at rest call (call_refusal old.mux.version call items) (early_refusal old.mux.version call items) IsAnswer result

-- every call of a stopped end is refused so, and changes nothing
abbrev pub RefusesStopped : {A : Type 0} → EndpointValue → EndpointValue → Result A CallFault → Type 0
RefusesStopped old new result = old.state ≡ state.Stopped → (result ≡ Err (fault.Refused refusal.Stopped)) × (new ≡ old)

-- what a step answers that applies a message, refuses it, or finds no room for what it might say
abbrev pub MessageAnswers : EndpointValue → EndpointValue → List EndItem → ℕ → List ℕ → EndItem → EndStep → Type 0
MessageAnswers old new items at rest (GotMessage c place size message) (step.Event (event.Rpc key e)) =
    (key ≡ c) × (e ≡ rpc.event_of message (items_of (rpc_of old.mux.version c items))) × Adds old new items at rest (GotMessage c place size message)
MessageAnswers old new items at rest (RefusedMessage c place r) (step.Event (event.RpcEnded key why)) =
    (key ≡ c) × (why ≡ refused_at place r) × Adds old new items at rest (RefusedMessage c place r)
MessageAnswers old new items at rest (Mux (End why)) (step.Ended c) = (c ≡ why) × Adds old new items at rest (Mux (End why))
MessageAnswers old new items at rest item step.OutOfMemory = new.state ≡ state.Stopped
MessageAnswers old new items at rest item reply = ⊥

-- what a step answers that applies the handshake or the next whole frame, waits for one, or ends the end where one is refused
abbrev pub FrameAnswers : EndpointValue → EndpointValue → List EndItem → ℕ → List ℕ → Arrival → EndStep → Type 0
FrameAnswers old new items at rest (Greets party size) (step.Event (event.Mux e)) =
    (e ≡ mux_event.Ready) × Adds old new items (at + size) (drop size rest) (Mux (Hello party))
FrameAnswers old new items at rest (Applies key body size) (step.Event (event.Mux e)) =
    (Some e ≡ event_of old.mux.version (item_of_frame old.mux.version at key body (mux_of old.mux.version items)) (mux_of old.mux.version items))
    × Adds old new items (at + size) (drop size rest) (Mux (item_of_frame old.mux.version at key body (mux_of old.mux.version items)))
FrameAnswers old new items at rest Waits step.Short = new ≡ old
FrameAnswers old new items at rest (Refuses place r) (step.Ended c) = (c ≡ refused_at place r) × Adds old new items at rest (Mux (End c))
FrameAnswers old new items at rest arrives step.OutOfMemory = new.state ≡ state.Stopped
FrameAnswers old new items at rest arrives reply = ⊥

-- a step applies the next message of a connection, or else what the peer sent next; an ended end tells its cause
abbrev pub StepAnswers : EndpointValue → EndpointValue → List EndItem → ℕ → List ℕ → (ended : Option Cause) → (next : Option EndItem) → EndStep → Type 0
StepAnswers old new items at rest (Some ended) next (step.Ended c) = (c ≡ ended) × (new ≡ old)
StepAnswers old new items at rest None (Some item) reply = MessageAnswers old new items at rest item reply
StepAnswers old new items at rest None None reply = FrameAnswers old new items at rest (arrival old.mux.version old.mux.nonce (mux_of old.mux.version items) at rest) reply
StepAnswers old new items at rest ended next reply = ⊥

-- a stopped end answers so, and changes nothing
abbrev pub StepsStopped : EndpointValue → EndpointValue → EndStep → Type 0
StepsStopped old new result = old.state ≡ state.Stopped → (result ≡ step.Stopped) × (new ≡ old)

-- a running end ends for this cause; one that doesn't run stays as it is
abbrev pub EndsBy : EndpointValue → EndpointValue → List EndItem → ℕ → List ℕ → (why : Cause) → Option Cause → Type 0
EndsBy old new items at rest why None = Adds old new items at rest (Mux (End why))
EndsBy old new items at rest why (Some ended) = new ≡ old

-- a piece is kept
pub record KeepsPiece (old new : EndpointValue) (items : List EndItem) (at : ℕ) (rest piece : List ℕ) : Type 0 where
  pub stands : Stands new items at (rest ++ piece)
  pub output : new.mux.output ≡ old.mux.output
  pub terms : KeepsTerms old.mux new.mux

-- a running end keeps a piece, or ends where more bytes than may be fed were fed
abbrev pub FeedAnswers : EndpointValue → EndpointValue → List EndItem → ℕ → List ℕ → List ℕ → Option Cause → (spent : Bool) → Result EndState OutOfMemory → Type 0
FeedAnswers old new items at rest piece (Some ended) spent (Ok s) = (s ≡ state.Ended ended) × (new ≡ old)
FeedAnswers old new items at rest piece None false (Ok s) = (s ≡ state.Running) × KeepsPiece old new items at rest piece
FeedAnswers old new items at rest piece None true (Ok s) = (s ≡ state.Ended cause.Spent) × Adds old new items at rest (Mux (End cause.Spent))
FeedAnswers old new items at rest piece None false (Err e) = new.state ≡ state.Stopped
FeedAnswers old new items at rest piece ended spent (Err e) = ⊥

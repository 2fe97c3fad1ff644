-- What calls and steps of an end answer, and what they leave.
use Rattle.std.specs.Prelude.{◌≡◌, ℕ, ◌+◌, List, [], ◌∷◌, ◌++◌, length, drop, Bool, true, false, nat_lt, if◌then◌else◌, Option, Some, None, Result, Ok, Err}
use Rattle.message_body.specs.Written.{encoder}
use Rattle.rpc_items.specs.Events.{event_of}
use Rattle.rpc_items.specs.Items.{RpcCall, RpcItem, Did, Got, End, ended}
use Rattle.rpc_items.specs.Refusals.{call_refusal, is_of_the_past, state_refusal, unless_ended}
use Rattle.rpc_items.specs.Saying.{said}
use Rattle.wire_base.specs.declared.fault.CallFault.{CallFault}
use Rattle.wire_base.specs.declared.fault.CallFault.TheVariants as fault
use Rattle.wire_base.specs.declared.limits.TheConstants.{MAX_FED}
use Rattle.wire_base.specs.declared.out_of_memory.OutOfMemory.{OutOfMemory}
use Rattle.wire_base.specs.declared.reason.Reason.{Reason}
use Rattle.wire_base.specs.declared.refusal.Refusal.{Refusal}
use Rattle.wire_base.specs.declared.refusal.Refusal.TheVariants as refusal
use Rattle.wire_base.specs.declared.state.Cause.{Cause}
use Rattle.wire_base.specs.declared.state.Cause.TheVariants as cause
use Rattle.wire_base.specs.declared.state.EndState.{EndState}
use Rattle.wire_base.specs.declared.state.EndState.TheVariants as state
use Rattle.rpc_end.specs.declared.step.RpcStep.{RpcStep}
use Rattle.rpc_end.specs.declared.step.RpcStep.TheVariants as step
use Rattle.rpc_end.specs.Arrivals.{Arrival, Applies, Waits, Refuses}
use Rattle.rpc_end.specs.Stands.{RpcValue, RpcStands}
use Rattle.rpc_end.specs.declared.terms.Terms.{Terms}
use Rattle.rpc_end.specs.Texts.{message_texts}

-- a connection with nothing begun
pub record IsBegun (terms : Terms) (end : RpcValue) : Type 0 where
  pub stands : RpcStands end [] 0 []
  pub output : end.output ≡ []
  pub terms_are : end.terms ≡ terms

-- an end goes from old, which stood for the items, to new, which stands for one more
pub record Adds (old new : RpcValue) (items : List RpcItem) (at : ℕ) (rest : List ℕ) (item : RpcItem) : Type 0 where
  pub stands : RpcStands new (item ∷ items) at rest
  pub output : new.output ≡ old.output ++ message_texts old.terms (said item items)
  pub terms_stay : new.terms ≡ old.terms

-- why a call is refused before what it would say is written
abbrev pub early_refusal : RpcCall → List RpcItem → Option Refusal
early_refusal call items = if is_of_the_past call then state_refusal call items else unless_ended (ended items) (state_refusal call items)

-- a call is refused exactly as the rules say, and then changes nothing; else it adds its item and answers so. Want of
-- memory may come first only where what the call says has to be written
abbrev pub CallAnswers : {A : Type 0} → RpcValue → RpcValue → List RpcItem → ℕ → List ℕ → RpcCall → (refused early : Option Refusal) → (A → Type 0) → Result A CallFault → Type 0
CallAnswers old new items at rest call None early IsAnswer (Ok x) = Adds old new items at rest (Did call) × IsAnswer x
CallAnswers old new items at rest call (Some r) early IsAnswer (Err (fault.Refused s)) = (s ≡ r) × (new ≡ old)
CallAnswers old new items at rest call refused None IsAnswer (Err fault.OutOfMemory) = new.state ≡ state.Stopped
CallAnswers old new items at rest call refused early IsAnswer result = ⊥

-- what a call of an end that stood for these items answers
abbrev pub Answers : {A : Type 0} → RpcValue → RpcValue → List RpcItem → ℕ → List ℕ → RpcCall → (A → Type 0) → Result A CallFault → Type 0
Answers old new items at rest call IsAnswer result = CallAnswers old new items at rest call (call_refusal (encoder old.terms.encoding) call items) (early_refusal call items) IsAnswer result

-- every call of a stopped end is refused so, and changes nothing
abbrev pub RefusesStopped : {A : Type 0} → RpcValue → RpcValue → Result A CallFault → Type 0
RefusesStopped old new result = old.state ≡ state.Stopped → (result ≡ Err (fault.Refused refusal.Stopped)) × (new ≡ old)

abbrev pub refused_at : ℕ → Reason → Cause
refused_at place r = cause.Refused (record { 0 = place }) r

-- a step applies the next whole message, waits for one, or ends the end where one is refused; an ended end tells its cause
abbrev pub StepAnswers : RpcValue → RpcValue → List RpcItem → ℕ → List ℕ → Option Cause → Arrival → RpcStep → Type 0
StepAnswers old new items at rest (Some ended) arrives (step.Ended c) = (c ≡ ended) × (new ≡ old)
StepAnswers old new items at rest None (Applies place message size) (step.Event e) =
    (e ≡ event_of message items) × Adds old new items (at + size) (drop size rest) (Got place message)
StepAnswers old new items at rest None Waits step.Short = new ≡ old
StepAnswers old new items at rest None (Refuses place r) (step.Ended c) = (c ≡ refused_at place r) × Adds old new items at rest (End c)
StepAnswers old new items at rest None arrives step.OutOfMemory = new.state ≡ state.Stopped
StepAnswers old new items at rest ended arrives reply = ⊥

-- a stopped end answers so, and changes nothing
abbrev pub StepsStopped : RpcValue → RpcValue → RpcStep → Type 0
StepsStopped old new result = old.state ≡ state.Stopped → (result ≡ step.Stopped) × (new ≡ old)

-- a running end ends for this cause; one that doesn't run stays as it is
abbrev pub EndsBy : RpcValue → RpcValue → List RpcItem → ℕ → List ℕ → (cause : Cause) → Option Cause → Type 0
EndsBy old new items at rest cause None = Adds old new items at rest (End cause)
EndsBy old new items at rest cause (Some ended) = new ≡ old

-- a piece is kept
pub record KeepsPiece (old new : RpcValue) (items : List RpcItem) (at : ℕ) (rest piece : List ℕ) : Type 0 where
  pub stands : RpcStands new items at (rest ++ piece)
  pub output : new.output ≡ old.output
  pub terms_stay : new.terms ≡ old.terms

-- a running end keeps a piece, or ends where more bytes than may be fed were fed
abbrev pub FeedAnswers : RpcValue → RpcValue → List RpcItem → ℕ → List ℕ → List ℕ → Option Cause → Bool → Result EndState OutOfMemory → Type 0
FeedAnswers old new items at rest piece (Some ended) spent (Ok s) = (s ≡ state.Ended ended) × (new ≡ old)
FeedAnswers old new items at rest piece None false (Ok s) = (s ≡ state.Running) × KeepsPiece old new items at rest piece
FeedAnswers old new items at rest piece None true (Ok s) = (s ≡ state.Ended cause.Spent) × Adds old new items at rest (End cause.Spent)
FeedAnswers old new items at rest piece None false (Err e) = new.state ≡ state.Stopped
FeedAnswers old new items at rest piece ended spent (Err e) = ⊥

-- the most bytes that are fed to an end
abbrev pub most_fed : ℕ
most_fed = MAX_FED

abbrev pub is_spent : ℕ → List ℕ → List ℕ → Bool
is_spent at rest piece = nat_lt most_fed (at + length rest + length piece)

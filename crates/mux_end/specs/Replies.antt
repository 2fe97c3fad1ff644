-- What calls and steps of an end answer, and what they leave.
use Rattle.std.specs.Prelude.{◌≡◌, ℕ, ◌+◌, List, [], ◌∷◌, ◌++◌, length, drop, Bool, true, false, nat_lt, Option, Some, None, Result, Ok, Err}
use Rattle.wire_base.specs.declared.refusal.Refusal.{Refusal}
use Rattle.wire_base.specs.declared.refusal.Refusal.TheVariants as refusal
use Rattle.wire_base.specs.declared.out_of_memory.OutOfMemory.{OutOfMemory}
use Rattle.wire_base.specs.declared.state.Cause.{Cause}
use Rattle.wire_base.specs.declared.state.Cause.TheVariants as cause
use Rattle.wire_base.specs.declared.state.EndState.{EndState}
use Rattle.wire_base.specs.declared.state.EndState.TheVariants as state
use Rattle.wire_base.specs.declared.fault.CallFault.{CallFault}
use Rattle.wire_base.specs.declared.fault.CallFault.TheVariants as fault
use Rattle.frame_text.specs.Hello.{hello}
use Rattle.mux_items.specs.declared.channel.MuxEvent.TheVariants as event
use Rattle.mux_items.specs.Limits.{most_bytes}
use Rattle.mux_items.specs.Bodies.{frame_texts}
use Rattle.mux_items.specs.Items.{Item, Hello, End}
use Rattle.mux_items.specs.Due.{due}
use Rattle.mux_items.specs.Applying.{item_of_frame, event_of}
use Rattle.wire_base.specs.declared.frame.Version.{Version}
use Rattle.mux_end.specs.declared.step.MuxStep.{MuxStep}
use Rattle.mux_end.specs.declared.step.MuxStep.TheVariants as step
use Rattle.mux_end.specs.Stands.{EndValue, MuxStands}
use Rattle.mux_end.specs.Arrivals.{Arrival, Greets, Applies, Waits, Refuses, refused_at}

-- no call changes the version or the nonce
pub record KeepsTerms (old new : EndValue) : Type 0 where
  pub version : new.version ≡ old.version
  pub nonce : new.nonce ≡ old.nonce

-- an end without channels, whose output is its hello
pub record IsStarted (v : Version) (nonce : List ℕ) (end : EndValue) : Type 0 where
  pub stands : MuxStands end [] 0 []
  pub output : end.output ≡ hello v nonce
  pub version : end.version ≡ v
  pub own_nonce : end.nonce ≡ nonce

-- an end goes from old, which stood for the items, to new, which stands for one more
pub record Adds (old new : EndValue) (items : List Item) (at : ℕ) (rest : List ℕ) (item : Item) : Type 0 where
  pub stands : MuxStands new (item ∷ items) at rest
  pub output : new.output ≡ old.output ++ frame_texts old.version (due old.version item items)
  pub terms : KeepsTerms old new

-- a call is refused exactly as the rules say, and then changes nothing; else it adds its item and answers so
abbrev pub CallAnswers : {A : Type 0} → EndValue → EndValue → List Item → ℕ → List ℕ → Option Refusal → Item → (A → Type 0) → Result A CallFault → Type 0
CallAnswers old new items at rest None item IsAnswer (Ok x) = Adds old new items at rest item × IsAnswer x
CallAnswers old new items at rest None item IsAnswer (Err fault.OutOfMemory) = new.state ≡ state.Stopped
CallAnswers old new items at rest (Some r) item IsAnswer (Err (fault.Refused s)) = (s ≡ r) × (new ≡ old)
CallAnswers old new items at rest refused item IsAnswer result = ⊥

-- every call of a stopped end is refused so, and changes nothing
abbrev pub RefusesStopped : {A : Type 0} → EndValue → EndValue → Result A CallFault → Type 0
RefusesStopped old new result = old.state ≡ state.Stopped → (result ≡ Err (fault.Refused refusal.Stopped)) × (new ≡ old)

-- a step applies the handshake or the next whole frame, waits for one, or ends the end where one is refused; an ended end tells its cause
abbrev pub StepAnswers : EndValue → EndValue → List Item → ℕ → List ℕ → Option Cause → Arrival → MuxStep → Type 0
StepAnswers old new items at rest (Some ended) arrives (step.Ended c) = (c ≡ ended) × (new ≡ old)
StepAnswers old new items at rest None (Greets party size) (step.Event e) = (e ≡ event.Ready) × Adds old new items (at + size) (drop size rest) (Hello party)
StepAnswers old new items at rest None (Applies key body size) (step.Event e) =
    (Some e ≡ event_of old.version (item_of_frame old.version at key body items) items) × Adds old new items (at + size) (drop size rest) (item_of_frame old.version at key body items)
StepAnswers old new items at rest None Waits step.Short = new ≡ old
StepAnswers old new items at rest None (Refuses place r) (step.Ended c) = (c ≡ refused_at place r) × Adds old new items at rest (End c)
StepAnswers old new items at rest None arrives step.OutOfMemory = new.state ≡ state.Stopped
StepAnswers old new items at rest ended arrives reply = ⊥

-- a stopped end answers so, and changes nothing
abbrev pub StepsStopped : EndValue → EndValue → MuxStep → Type 0
StepsStopped old new result = old.state ≡ state.Stopped → (result ≡ step.Stopped) × (new ≡ old)

-- a running end ends for this cause; one that doesn't run stays as it is
abbrev pub EndsBy : EndValue → EndValue → List Item → ℕ → List ℕ → (cause : Cause) → Option Cause → Type 0
EndsBy old new items at rest cause None = Adds old new items at rest (End cause)
EndsBy old new items at rest cause (Some ended) = new ≡ old

-- a piece is kept
pub record KeepsPiece (old new : EndValue) (items : List Item) (at : ℕ) (rest piece : List ℕ) : Type 0 where
  pub stands : MuxStands new items at (rest ++ piece)
  pub output : new.output ≡ old.output
  pub terms : KeepsTerms old new

-- a running end keeps a piece, or ends where more bytes than may be fed were fed
abbrev pub FeedAnswers : EndValue → EndValue → List Item → ℕ → List ℕ → List ℕ → Option Cause → Bool → Result EndState OutOfMemory → Type 0
FeedAnswers old new items at rest piece (Some ended) spent (Ok s) = (s ≡ state.Ended ended) × (new ≡ old)
FeedAnswers old new items at rest piece None false (Ok s) = (s ≡ state.Running) × KeepsPiece old new items at rest piece
FeedAnswers old new items at rest piece None true (Ok s) = (s ≡ state.Ended cause.Spent) × Adds old new items at rest (End cause.Spent)
FeedAnswers old new items at rest piece None false (Err e) = new.state ≡ state.Stopped
FeedAnswers old new items at rest piece ended spent (Err e) = ⊥

abbrev pub is_spent : ℕ → List ℕ → List ℕ → Bool
is_spent at rest piece = nat_lt most_bytes (at + length rest + length piece)

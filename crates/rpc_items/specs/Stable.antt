-- What laws say of outcomes.
use Rattle.std.specs.Prelude.{◌≡◌, ◌≢◌, ◌⊎◌, ℕ, List, ◌∷◌, ◌++◌, Bool, true, false, Some, None}
use Rattle.rpc_items.specs.declared.calls.Outcome.{Outcome}
use Rattle.rpc_items.specs.declared.calls.Outcome.TheVariants.{Replied, Failed, Lost, Starved}
use Rattle.rpc_items.specs.declared.calls.RpcEvent.{RpcEvent}
use Rattle.rpc_items.specs.declared.messages.Message.{Message}
use Rattle.rpc_items.specs.declared.calls.RpcEvent.TheVariants as event
use Rattle.rpc_items.specs.Items.{RpcItem, Got, is_running}
use Rattle.rpc_items.specs.Drawn.{is_drawn, is_forgotten}
use Rattle.rpc_items.specs.Outcomes.{response_to, answer_to, Look, Known, NotYet, NoRequest, outcome}

-- what is said of an outcome once there are these items
abbrev pub IsStable : ℕ → List RpcItem → Look → Type 0
IsStable n now (Known known) = (outcome false n now ≡ Known known) ⊎ ((outcome false n now ≡ NoRequest) × (is_forgotten n now ≡ true))
IsStable n now NotYet = Unit {0}
IsStable n now NoRequest = Unit {0}

-- these items have this response, which came to a connection that ran after the request was drawn, and none older than it
pub record IsFirst (n : ℕ) (response : Outcome) (items : List RpcItem) : Type 0 where
  pub newer : List RpcItem
  pub item : RpcItem
  pub older : List RpcItem
  pub are : items ≡ newer ++ item ∷ older
  pub says : response_to n item ≡ Some response
  pub drawn : is_drawn n older ≡ true
  pub runs : is_running older ≡ true
  pub none : answer_to n older ≡ None

-- why an outcome is what it is
abbrev pub IsReal : (stopped : Bool) → ℕ → List RpcItem → Look → Type 0
IsReal stopped n items (Known (Replied value)) = IsFirst n (Replied value) items
IsReal stopped n items (Known (Failed code text more)) = IsFirst n (Failed code text more) items
IsReal stopped n items (Known Lost) = (is_running items ≡ false) × (answer_to n items ≡ None)
IsReal stopped n items (Known Starved) = (stopped ≡ true) × (is_running items ≡ true) × (answer_to n items ≡ None)
IsReal stopped n items NotYet = Unit {0}
IsReal stopped n items NoRequest = Unit {0}

-- a connection that stops starves the requests that wait, and changes no other outcome
abbrev pub starved : Look → Look
starved NotYet = Known Starved
starved look = look

-- a first response answers its request and changes no other's answer; every other message changes none
abbrev pub Settles : ℕ → Message → List RpcItem → RpcEvent → Type 0
Settles place message items (event.Answered n) =
    (answer_to n items ≡ None) × (answer_to n (Got place message ∷ items) ≡ response_to n (Got place message)) × ((m : ℕ) → m ≢ n → answer_to m (Got place message ∷ items) ≡ answer_to m items)
Settles place message items event = (m : ℕ) → answer_to m (Got place message ∷ items) ≡ answer_to m items

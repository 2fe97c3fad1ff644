-- What two connections on one channel take of each other.
use Rattle.std.specs.Prelude.{◌≡◌, ◌≤◌, ℕ, List, [], ◌++◌, map, true}
use Rattle.wire_base.specs.declared.frame.Version.{Version}
use Rattle.wire_base.specs.declared.text.Id.{Id}
use Rattle.message_body.specs.AsRead.{as_read, AreMessages}
use Rattle.mux_items.specs.declared.channel.ChannelKey.{ChannelKey}
use Rattle.mux_items.specs.Bodies.{other_key}
use Rattle.mux_run.specs.Run.{Terms}
use Rattle.rpc_items.specs.declared.messages.Message.{Message}
use Rattle.rpc_items.specs.Answered.{requests, responses}
use Rattle.rpc_items.specs.Fitting.{IsFrontOf}
use Rattle.rpc_items.specs.Items.{RpcItem}
use Rattle.rpc_items.specs.Produced.{produced_at}
use Rattle.rpc_items.specs.Producing.{answered_values}
use Rattle.rpc_items.specs.Saying.{all_said}
use Rattle.endpoint_items.specs.Items.{EndItem, terms_of}
use Rattle.endpoint_items.specs.Connections.{items_of, was_attached}
use Rattle.endpoint_items.specs.Exchange.{said_on, got_on}
use Rattle.endpoint_items.specs.Joined.{read_first}
use Rattle.endpoint_items.specs.Layers.{rpc_of}
use Rattle.endpoint_items.specs.Spoken.{written_first}
use Rattle.endpoint_run.specs.Run.{EndWorld, EndStep}
use Rattle.endpoint_run.specs.Moments.{Moment, IsInRun, at_moment}

-- on the channel that x names c both sides attached a connection, in the same terms; and before that nothing was written
-- there by y nor read by x
pub record IsShared (v : Version) (c : ChannelKey) (x y : List EndItem) : Type 0 where
  pub reader : was_attached (rpc_of v c x) ≡ true
  pub writer : was_attached (rpc_of v (other_key c) y) ≡ true
  pub same_terms : terms_of c x ≡ terms_of (other_key c) y
  pub nothing_read : read_first v c x ≡ []
  pub nothing_written : written_first v (other_key c) y ≡ []

-- the messages that x took there are the first that y said, each as it is read
abbrev pub TakesFront : Version → ChannelKey → (x y : List EndItem) → Type 0
TakesFront v c x y = (later : List Message) × (got_on v c x ++ later ≡ map (as_read (terms_of c x).encoding) (said_on v (other_key c) y))

-- so it is on each channel that they share so
abbrev pub TakesInOrder : Version → (x y : List EndItem) → Type 0
TakesInOrder v x y = (c : ChannelKey) → IsShared v c x y → TakesFront v c x y

-- what x answers there are requests that y said, and each of them once at most
pub record AnswersOnce (v : Version) (c : ChannelKey) (x y : List EndItem) : Type 0 where
  pub asked : (id : Id) → responses id (said_on v c x) ≤ requests id (said_on v (other_key c) y)
  pub once : (id : Id) → responses id (said_on v c x) ≤ 1

-- so it is on each channel that they share so
abbrev pub AnswersEachOnce : Version → (x y : List EndItem) → Type 0
AnswersEachOnce v x y = (c : ChannelKey) → IsShared v c x y → AnswersOnce v c x y

-- what x took there is all that y had said at some moment; of each sequence that y answered, the values that it had answered
-- then, with the result and in pages, are a front of the sequence
pub record TakesPages (v : Version) (c : ChannelKey) (x y : List EndItem) : Type 0 where
  pub newer : List RpcItem
  pub older : List RpcItem
  pub parts : newer ++ older ≡ items_of (rpc_of v (other_key c) y)
  pub took : got_on v c x ≡ map (as_read (terms_of c x).encoding) (all_said older)
  pub fronts : (token : ℕ) → IsFrontOf (answered_values token older) (produced_at token (items_of (rpc_of v (other_key c) y)))

-- so it is on each channel that they share so
abbrev pub TakesPagesInOrder : Version → (x y : List EndItem) → Type 0
TakesPagesInOrder v x y = (c : ChannelKey) → IsShared v c x y → TakesPages v c x y

-- both sides take messages in order, and so the pages of sequences, and answer requests once
pub record IsExchange (v : Version) (a b : List EndItem) : Type 0 where
  pub to_a : TakesInOrder v a b
  pub to_b : TakesInOrder v b a
  pub answers_a : AnswersEachOnce v a b
  pub answers_b : AnswersEachOnce v b a
  pub pages_to_a : TakesPagesInOrder v a b
  pub pages_to_b : TakesPagesInOrder v b a

-- so it is between two sides of a world
abbrev pub IsExchangeIn : Terms → EndWorld → Type 0
IsExchangeIn terms w = IsExchange terms.version w.a.items w.b.items

-- at each moment of the run of these steps
abbrev pub IsExchangeRun : Terms → List EndStep → Type 0
IsExchangeRun terms steps = (first : List EndStep) (moment : Moment) → IsInRun steps first moment → IsExchangeIn terms (at_moment terms first moment)

-- what a side said on each of its channels are messages of the code
abbrev pub SaysMessages : Version → List EndItem → Type 0
SaysMessages v items = (c : ChannelKey) → AreMessages (said_on v c items)

-- so it is at both sides
pub record SayMessages (terms : Terms) (w : EndWorld) : Type 0 where
  pub a : SaysMessages terms.version w.a.items
  pub b : SaysMessages terms.version w.b.items

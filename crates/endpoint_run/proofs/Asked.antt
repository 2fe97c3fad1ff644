-- No two requests that a connection says have one id.
use Rattle.std.specs.Prelude.{if◌then◌else◌, codes, true, false, pos, negsuc}
use Rattle.std.proofs.Common.{◌≡◌, ℕ, ◌+◌, ◌≤◌, List, [], ◌∷◌, refl, ap, arith, Option, Some, None}
use Rattle.wire_base.specs.declared.text.Id.{Id}
use Rattle.wire_base.specs.declared.text.Id.TheVariants.{Number, Name}
use Rattle.rpc_items.specs.declared.calls.Answer.{Answer}
use Rattle.rpc_items.specs.declared.calls.Answer.TheVariants as answer
use Rattle.rpc_items.specs.declared.messages.Message.TheVariants.{Request, Notification}
use Rattle.rpc_items.specs.declared.messages.Message.TheVariants as message
use Rattle.rpc_items.specs.declared.methods.Meaning.{Meaning}
use Rattle.rpc_items.specs.declared.methods.Meaning.TheVariants.{Turns, Calls}
use Rattle.rpc_items.specs.Answered.{requests}
use Rattle.rpc_items.specs.Automatic.{automatic, turned, page_by, fault, nothing_there}
use Rattle.rpc_items.specs.Drawn.{drawn}
use Rattle.rpc_items.specs.Ids.{same_id, numbered_id}
use Rattle.rpc_items.specs.Items.{RpcItem, Did, Got, End, Ask, Tell, Respond, Cancel, Report, TakeReport, Next, Abort, Invoke, Release, Forget}
use Rattle.rpc_items.specs.Meanings.{meaning}
use Rattle.rpc_items.specs.OwnHandles.{own_live}
use Rattle.rpc_items.specs.Produced.{Produced, produced_at}
use Rattle.rpc_items.specs.Producing.{page_count, sequence_named}
use Rattle.rpc_items.specs.Saying.{said, all_said, response, with_token, abort_message, turn_message}
use Rattle.rpc_items.specs.Sequences.{sequence_of}
use Rattle.rpc_items.proofs.Answering.{requests-append}
use Rattle.rpc_items.proofs.Drawing.{drawn_once}

-- answers are no requests

response_asks : (id i : Id) (given : Answer) (items : List RpcItem) → requests id (response i given items ∷ []) ≡ 0
response_asks id i (answer.Value value) items = refl
response_asks id i (answer.Object object) items = refl
response_asks id i (answer.Sequence values page first) items = refl
response_asks id i (answer.Fault code text more) items = refl

page_asks : (id i : Id) (s : Option Produced) (pages : ℕ) → requests id (page_by i s pages) ≡ 0
page_asks id i (Some s) pages = refl
page_asks id i None pages = refl

turned_asks : (id i : Id) (token : Option ℕ) (items : List RpcItem) → requests id (turned i token items) ≡ 0
turned_asks id i (Some token) items = page_asks id i (produced_at token items) (page_count token items)
turned_asks id i None items = refl

automatic_asks : (id i : Id) (m : Meaning) (items : List RpcItem) → requests id (automatic i m items) ≡ 0
automatic_asks id i (Turns token) items = turned_asks id i (sequence_named token items) items
automatic_asks id i (Calls handle method) items = elim (own_live handle items) as (λ b. requests id (if b then [] else fault i nothing_there (codes "no object") ∷ []) ≡ 0) [ true ↦ refl | false ↦ refl ]
automatic_asks id i m items = refl

-- an id that isn't drawn is that of no request

module _ (id : Id) (undrawn : (n : ℕ) → same_id (numbered_id n) id ≡ false) where
  request_other : (n : ℕ) → (if same_id (numbered_id n) id then 0 + 1 else 0) ≡ 0
  request_other n = ap (λ b. if b then 0 + 1 else 0) (undrawn n)

  turn_other : (n : ℕ) (token : Option Id) → requests id (with_token token (λ token. turn_message n token)) ≡ 0
  turn_other n (Some token) = request_other n
  turn_other n None = refl

  abort_other : (token : Option Id) → requests id (with_token token abort_message) ≡ 0
  abort_other (Some token) = refl
  abort_other None = refl

  said_other : (item : RpcItem) (items : List RpcItem) → requests id (said item items) ≡ 0
  said_other (Did (Ask method args expect)) items = request_other (drawn items + 1)
  said_other (Did (Invoke handle method args expect)) items = request_other (drawn items + 1)
  said_other (Did (Next n)) items = turn_other (drawn items + 1) (sequence_of n items)
  said_other (Did (Abort n)) items = abort_other (sequence_of n items)
  said_other (Did (Respond i given)) items = response_asks id i given items
  said_other (Did (Tell method args)) items = refl
  said_other (Did (Cancel n)) items = refl
  said_other (Did (Report i token value)) items = refl
  said_other (Did (TakeReport n)) items = refl
  said_other (Did (Release key)) items = refl
  said_other (Did (Forget n)) items = refl
  said_other (Got place (Request i method params)) items = automatic_asks id i (meaning method params) items
  said_other (Got place (Notification method params)) items = refl
  said_other (Got place (message.Result i value)) items = refl
  said_other (Got place (message.Error i code text more)) items = refl
  said_other (End cause) items = refl

  none_other : (items : List RpcItem) → requests id (all_said items) ≡ 0
  none_other [] = refl
  none_other (item ∷ items) = omega (arith, requests-append id (all_said items) (said item items), said_other item items, none_other items)

pub asks_once : (id : Id) (items : List RpcItem) → requests id (all_said items) ≤ 1
asks_once (Number (pos n)) items = (drawn_once n items).0
asks_once (Number (negsuc n)) items = omega (arith, none_other (Number (negsuc n)) (λ n. refl) items)
asks_once (Name s) items = omega (arith, none_other (Name s) (λ n. refl) items)

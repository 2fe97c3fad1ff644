-- At some moment a connection had said just the first messages, and had answered a front of each sequence.
use Rattle.std.specs.Prelude.{◌&&◌, Bool, true, false, is_some, if◌then◌else◌, Result}
use Rattle.std.proofs.Common.{◌≡◌, ℕ, ◌+◌, ◌≤◌, ◌<◌, List, [], ◌∷◌, ◌++◌, take, length, refl, sym, ◌∙◌, ap, subst, arith, inl, inr, Option, Some, None}
use Rattle.std.proofs.lemmas.List.{length-append, take-append-le, take_all}
use Rattle.std.proofs.lemmas.Bool.{cases_lt}
use Rattle.wire_base.specs.Tree.{Tree}
use Rattle.wire_base.specs.declared.text.Id.{Id}
use Rattle.rpc_items.specs.declared.messages.Message.{Message}
use Rattle.rpc_items.specs.declared.messages.Message.TheVariants.{Request, Notification}
use Rattle.rpc_items.specs.declared.messages.Message.TheVariants as message
use Rattle.rpc_items.specs.declared.methods.Meaning.{Meaning}
use Rattle.rpc_items.specs.declared.methods.Meaning.TheVariants.{Serves, Cancels, Reports, Turns, Aborts, Releases, Calls, Mistakes, Unknown}
use Rattle.rpc_items.specs.Automatic.{automatic, page_by, turned}
use Rattle.rpc_items.specs.Fitting.{IsFrontOf}
use Rattle.rpc_items.specs.Items.{Ask, Tell, Respond, Cancel, Report, TakeReport, Next, Abort, Invoke, Release, Forget, RpcItem, Did, Got, End}
use Rattle.rpc_items.specs.Meanings.{meaning}
use Rattle.rpc_items.specs.OwnHandles.{own_live}
use Rattle.rpc_items.specs.Produced.{Produced, produced_at}
use Rattle.rpc_items.specs.Producing.{answered_values, first_of_sequence, is_producing, page_count, page_of, sequence_named, turns_page}
use Rattle.rpc_items.specs.Saying.{all_said, said, with_token}
use Rattle.rpc_items.specs.Sequences.{sequence_of}
use Rattle.rpc_items.proofs.Paging.{front, produced_more}

-- an item says one message at most

one_if : (b : Bool) (m : Message) → length (if b then [] else m ∷ []) ≤ 1
one_if true m = omega arith
one_if false m = omega arith

one_of_token : (o : Option Id) (say : Id → Message) → length (with_token o say) ≤ 1
one_of_token (Some token) say = omega arith
one_of_token None say = omega arith

one_page : (id : Id) (s : Option Produced) (pages : ℕ) → length (page_by id s pages) ≤ 1
one_page id (Some s) pages = omega arith
one_page id None pages = omega arith

one_turn : (id : Id) (token : Option ℕ) (items : List RpcItem) → length (turned id token items) ≤ 1
one_turn id (Some token) items = one_page id (produced_at token items) (page_count token items)
one_turn id None items = omega arith

one_answer : (id : Id) (m : Meaning) (items : List RpcItem) → length (automatic id m items) ≤ 1
one_answer id Serves items = omega arith
one_answer id (Cancels named) items = omega arith
one_answer id (Reports token value) items = omega arith
one_answer id (Turns token) items = one_turn id (sequence_named token items) items
one_answer id (Aborts token) items = omega arith
one_answer id (Releases key) items = omega arith
one_answer id (Calls handle method) items = one_if (own_live handle items) _
one_answer id Mistakes items = omega arith
one_answer id Unknown items = omega arith

one_said : (item : RpcItem) (items : List RpcItem) → length (said item items) ≤ 1
one_said (Did (Ask method args expect)) items = omega arith
one_said (Did (Tell method args)) items = omega arith
one_said (Did (Respond id given)) items = omega arith
one_said (Did (Cancel n)) items = omega arith
one_said (Did (Report id token value)) items = omega arith
one_said (Did (TakeReport n)) items = omega arith
one_said (Did (Next n)) items = one_of_token (sequence_of n items) _
one_said (Did (Abort n)) items = one_of_token (sequence_of n items) _
one_said (Did (Invoke handle method args expect)) items = omega arith
one_said (Did (Release key)) items = omega arith
one_said (Did (Forget n)) items = omega arith
one_said (Got place (Request id method params)) items = one_answer id (meaning method params) items
one_said (Got place (Notification method params)) items = omega arith
one_said (Got place (message.Result id value)) items = omega arith
one_said (Got place (message.Error id code text more)) items = omega arith
one_said (End cause) items = omega arith

-- the older of these items said just the first so many messages

pub record SaidFirst (k : ℕ) (items : List RpcItem) : Type 0 where
  pub newer : List RpcItem
  pub older : List RpcItem
  pub parts : newer ++ older ≡ items
  pub said : all_said older ≡ take k (all_said items)

more : (k : ℕ) (item : RpcItem) (items : List RpcItem) → k < length (all_said (item ∷ items)) → SaidFirst k items → SaidFirst k (item ∷ items)
more k item items less before = record {
  newer = item ∷ before.newer;
  older = before.older;
  parts = ap (λ (is : List RpcItem). item ∷ is) before.parts;
  said =
      let sum = length-append (all_said items) (said item items) in
      let one = one_said item items in
      before.said ∙ sym (take-append-le k (all_said items) (said item items) (omega (arith, less, sum, one)));
}

pub said_first : (k : ℕ) (items : List RpcItem) → SaidFirst k items
said_first k [] = record { newer = []; older = []; parts = refl; said = sym (take_all k [] (omega arith)) }
said_first k (item ∷ items) = elim (cases_lt k (length (all_said (item ∷ items)))) [
  | inl less ↦ more k item items less (said_first k items)
  | inr all ↦ record { newer = []; older = item ∷ items; parts = refl; said = sym (take_all k (all_said (item ∷ items)) all) }
]

-- what was answered of a sequence at an earlier moment is a front of it

was_none : (token : ℕ) (item : RpcItem) (items : List RpcItem) (o : Option Produced) → produced_at token items ≡ o → produced_at token (item ∷ items) ≡ None → o ≡ None
was_none token item items (Some s) h e = absurd (cc (e, produced_more token item items s h))
was_none token item items None h e = refl

unanswered : (token : ℕ) (items : List RpcItem) → produced_at token items ≡ None → answered_values token items ≡ []
unanswered token [] e = refl
unanswered token (item ∷ items) e =
    let before : produced_at token items ≡ None = was_none token item items (produced_at token items) refl e in
    ap (λ (o : Option Produced). if is_some o then (if turns_page token item && is_producing token items then answered_values token items ++ page_of o (page_count token items) else answered_values token items) else first_of_sequence (produced_at token (item ∷ items))) before
    ∙ ap first_of_sequence e

still_produced : (token : ℕ) (newer older : List RpcItem) (s : Produced) → produced_at token older ≡ Some s → produced_at token (newer ++ older) ≡ Some s
still_produced token [] older s e = e
still_produced token (item ∷ newer) older s e = produced_more token item (newer ++ older) s (still_produced token newer older s e)

none_is_front : (o : Option Produced) → IsFrontOf [] o
none_is_front (Some s) = (s.values, refl)
none_is_front None = tt

pub front_of_later : (token : ℕ) (newer older : List RpcItem) → IsFrontOf (answered_values token older) (produced_at token (newer ++ older))
front_of_later token newer older = by (produced_at token older) refl (front token older)
  where
    by : (o : Option Produced) → produced_at token older ≡ o → IsFrontOf (answered_values token older) o → IsFrontOf (answered_values token older) (produced_at token (newer ++ older))
    by (Some s) h f = subst (IsFrontOf (answered_values token older)) (sym (still_produced token newer older s h)) f
    by None h f = subst (λ (vs : List Tree). IsFrontOf vs (produced_at token (newer ++ older))) (sym (unanswered token older h)) (none_is_front (produced_at token (newer ++ older)))

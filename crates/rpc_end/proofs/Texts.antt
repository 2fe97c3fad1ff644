-- What is written of a message: which refusal comes first, and that it is a message of the code.
use Rattle.std.specs.Prelude.{ℕ, ◌+◌, ◌≤◌, List, [], ◌∷◌, ◌++◌, length, drop, Bool, true, false, ◌==◌, nat_lt, if◌then◌else◌, Option, Some, None, Result, Ok, Err, IfOk, OnOk}
use Rattle.std.proofs.Common.{◌≡◌, refl, sym, ◌∙◌, ap, subst, arith}
use Rattle.std.proofs.lemmas.Bool.Decides.{nat_tests}
use Rattle.std.proofs.lemmas.List.{append-nil}
use Rattle.call_messages.specs.Messages.{is_plain_answer}
use Rattle.enumerables.specs.declared.followed.Followed.{Followed}
use Rattle.enumerables.specs.Consumer.{found, token_at}
use Rattle.message_body.specs.AsRead.{AreMessages, IsMessage}
use Rattle.message_body.specs.Replies.{Writes}
use Rattle.message_body.specs.Written.{encoder}
use Rattle.rpc_items.specs.declared.calls.Answer.{Answer}
use Rattle.rpc_items.specs.declared.calls.Answer.TheVariants as answer
use Rattle.rpc_items.specs.declared.messages.Message.{Message}
use Rattle.rpc_items.specs.Arguments.{most_drawn}
use Rattle.rpc_items.specs.Bodies.{body_refusal, first_refusal}
use Rattle.rpc_items.specs.Fitting.{IsNamed}
use Rattle.rpc_items.specs.Ids.{numbered_id, whole_bound}
use Rattle.rpc_items.specs.Pages.{page_values}
use Rattle.rpc_items.specs.Told.{HasNamedId}
use Rattle.rpc_items.specs.Saying.{abort_message, response, turn_message, with_token}
use Rattle.rpc_items.specs.Writing.{message_value}
use Rattle.sequence_limits.specs.Limits.{pages_refusal, values_refusal}
use Rattle.sequence_limits.proofs.Refused.{refused_in_order}
use Rattle.wire_base.specs.Tree.{Tree}
use Rattle.wire_base.specs.declared.fault.CallFault.{CallFault}
use Rattle.wire_base.specs.declared.fault.CallFault.TheVariants as fault
use Rattle.wire_base.specs.declared.refusal.Refusal.{Refusal}
use Rattle.wire_base.specs.declared.text.Id.{Id}
use Rattle.wire_base.specs.Options.{or_else}
use Rattle.rpc_end.specs.declared.terms.Terms.{Terms}
use Rattle.rpc_end.specs.Calls.{Prepares, page_asked, pages_left, response_by, unwritten}
use Rattle.rpc_end.specs.Stands.{RpcValue}
use Rattle.rpc_end.specs.Texts.{message_text, message_texts}

-- the order of refusals

pub both_none : (one two : Option Refusal) → one ≡ None → two ≡ None → or_else one two ≡ None
both_none None two e f = f
both_none (Some r) two e f = absurd (cc e)

-- a text that is prepared after the early refusals
pub prepared_after : {A : Type 0} (early late : Option Refusal) (text : Result A CallFault) → early ≡ None → Prepares None late text → Prepares early late text
prepared_after early late text e p = subst (λ (o : Option Refusal). Prepares o late text) (sym e) p

-- a text that is written after the early refusals
pub written : {A : Type 0} (early body : Option Refusal) (text : Result A CallFault) → early ≡ None → Writes body text → Prepares early (or_else body None) text
written None None (Ok y) e w = (refl, refl)
written None (Some t) (Ok y) e w = absurd cc
written None body (Err fault.OutOfMemory) e w = refl
written None None (Err (fault.Refused r)) e w = absurd cc
written None (Some t) (Err (fault.Refused r)) e w = w
written (Some t) body text e w = absurd cc

-- a test that refuses, behind tests that are passed

pub refused_so : (early late one more : Option Refusal) (r : Refusal) → early ≡ None → late ≡ or_else one more → one ≡ Some r → Prepares {A = Unit {0}} early late (Err (fault.Refused r))
refused_so None late (Some t) more r e is one = is ∙ one
refused_so None late None more r e is one = absurd (cc one)
refused_so (Some t) late one more r e is one_is = absurd (cc e)

pub refused_then : (early late one two more : Option Refusal) (error : CallFault) → early ≡ None → late ≡ or_else one (or_else two more) → one ≡ None → Writes {A = Unit {0}} two (Err error) → Prepares {A = Unit {0}} early late (Err error)
refused_then None late None (Some t) more (fault.Refused r) e is one writes = is ∙ writes
refused_then None late None None more (fault.Refused r) e is one writes = absurd (cc writes)
refused_then None late None two more fault.OutOfMemory e is one writes = refl
refused_then None late (Some t) two more error e is one writes = absurd (cc one)
refused_then (Some t) late one two more error e is one_is writes = absurd (cc e)

pub refused_last : (early late one two three : Option Refusal) (error : CallFault) → early ≡ None → late ≡ or_else one (or_else two three) → one ≡ None → two ≡ None → Writes {A = Unit {0}} three (Err error) → Prepares {A = Unit {0}} early late (Err error)
refused_last None late None None three (fault.Refused r) e is one two writes = is ∙ writes
refused_last None late None None three fault.OutOfMemory e is one two writes = refl
refused_last None late None (Some t) three error e is one two writes = absurd (cc two)
refused_last None late (Some t) two three error e is one two_is writes = absurd (cc one)
refused_last (Some t) late one two three error e is one_is two_is writes = absurd (cc e)

pub passed : (late one two three : Option Refusal) → late ≡ or_else one (or_else two three) → one ≡ None → two ≡ None → three ≡ None → late ≡ None
passed late None None three is one two three_is = is ∙ three_is
passed late None (Some t) three is one two three_is = absurd (cc two)
passed late (Some t) two three is one two_is three_is = absurd (cc one)

-- one message, as it is written

pub text_so : {A : Type 0} (bytes_of : A → List ℕ) (bytes : List ℕ) (text : Result A CallFault) → IfOk text (λ t. bytes_of t ≡ bytes) → IfOk text (λ t. bytes_of t ≡ bytes ++ [])
text_so bytes_of bytes (Ok t) e = e ∙ sym (append-nil bytes)
text_so bytes_of bytes (Err r) e = tt

pub message_when : {A N : Type 0} (text : Result A CallFault) (m : Message) → (N → HasNamedId m) → OnOk text (HasNamedId m → IsMessage m) → OnOk text (N → AreMessages (m ∷ []))
message_when (Ok x) m named f = λ n. (f (named n), tt)
message_when (Err e) m named f = tt

-- these messages are what is written after the early refusals, and are messages of the code on a condition
pub record IsWritten (A N : Type 0) (text : Result A CallFault) (bytes_of : A → List ℕ) (terms : Terms) (early : Option Refusal) (messages : List Message) : Type 0 where
  pub ok : IfOk text (λ t. bytes_of t ≡ message_texts terms messages)
  pub answer : Prepares early (first_refusal (encoder terms.encoding) messages) text
  pub said : OnOk text (N → AreMessages messages)

one_text : (A N : Type 0) (text : Result A CallFault) (bytes_of : A → List ℕ) (terms : Terms) (early : Option Refusal) (m : Message) → early ≡ None → (N → HasNamedId m)
    → IfOk text (λ t. bytes_of t ≡ message_text terms m) → Writes (body_refusal (encoder terms.encoding) (message_value m)) text → OnOk text (HasNamedId m → IsMessage m) → IsWritten A N text bytes_of terms early (m ∷ [])
one_text A N text bytes_of terms early m none named ok writes fine = record {
  ok = text_so bytes_of (message_text terms m) text ok;
  answer = written early (body_refusal (encoder terms.encoding) (message_value m)) text none writes;
  said = message_when text m named fine;
}

-- the same of one that is made, and is all that is to be said
pub made_text : {A : Type 0} (N : Type 0) (text : Result A CallFault) (bytes_of : A → List ℕ) (terms : Terms) (early : Option Refusal) (given m : Message) (messages : List Message) → given ≡ m → messages ≡ m ∷ [] → early ≡ None → (N → HasNamedId m)
    → IfOk text (λ t. bytes_of t ≡ message_text terms given) → Writes (body_refusal (encoder terms.encoding) (message_value given)) text → OnOk text (HasNamedId given → IsMessage given) → IsWritten A N text bytes_of terms early messages
made_text {A} N text bytes_of terms early given m messages same is none named ok writes fine =
    subst (λ (ms : List Message). IsWritten A N text bytes_of terms early ms) (sym is)
    (one_text A N text bytes_of terms early m none named
    (subst (λ (g : Message). IfOk text (λ t. bytes_of t ≡ message_text terms g)) same ok)
    (subst (λ (g : Message). Writes (body_refusal (encoder terms.encoding) (message_value g)) text) same writes)
    (subst (λ (g : Message). OnOk text (HasNamedId g → IsMessage g)) same fine))

-- messages of the code on no condition
pub at_once : {A : Type 0} (text : Result A CallFault) (messages : List Message) → OnOk text (Unit {0} → AreMessages messages) → OnOk text (AreMessages messages)
at_once (Ok t) messages f = f tt
at_once (Err e) messages f = tt

-- a message that is made and written is one of the code
pub said_so : {A : Type 0} (text : Result A CallFault) (given m : Message) → given ≡ m → HasNamedId m → OnOk text (HasNamedId given → IsMessage given) → OnOk text (AreMessages (m ∷ []))
said_so (Ok t) given m same named fine = (subst (λ (g : Message). HasNamedId g → IsMessage g) same fine named, tt)
said_so (Err e) given m same named fine = tt

-- a number that can be drawn is in the range of ids

in_range : (n : ℕ) → n ≤ most_drawn → nat_lt n whole_bound ≡ true
in_range n h = grind (arith, nat_tests)

pub drawn_named : (n : ℕ) → n ≤ most_drawn → IsNamed (numbered_id n)
drawn_named n h = ap (λ (b : Bool). if b then Some (numbered_id n) else None) (in_range n h)

-- responses that are values or errors

pub plain_response : (id : Id) (given : Answer) (end : RpcValue) → is_plain_answer given ≡ true → response_by id given end ≡ response id given []
plain_response id (answer.Value value) end p = refl
plain_response id (answer.Fault code text more) end p = refl
plain_response id (answer.Object object) end p = absurd (cc p)
plain_response id (answer.Sequence values page first) end p = absurd (cc p)

pub plain_unwritten : (id : Id) (given : Answer) (end : RpcValue) → is_plain_answer given ≡ true → first_refusal (encoder end.terms.encoding) (response_by id given end ∷ []) ≡ unwritten id given end
plain_unwritten id (answer.Value value) end p = refl
plain_unwritten id (answer.Fault code text more) end p = refl
plain_unwritten id (answer.Object object) end p = absurd (cc p)
plain_unwritten id (answer.Sequence values page first) end p = absurd (cc p)

-- such a response has the id that it answers
pub plain_named : (id : Id) (given : Answer) (end : RpcValue) → is_plain_answer given ≡ true → IsNamed id → HasNamedId (response_by id given end)
plain_named id (answer.Value value) end p named = named
plain_named id (answer.Fault code text more) end p named = named
plain_named id (answer.Object object) end p named = absurd (cc p)
plain_named id (answer.Sequence values page first) end p named = absurd (cc p)

-- sequences, which are tested for their values, for the response, and for its later pages

pub unwritten_in_order : (id : Id) (values : List Tree) (page first : ℕ) (end : RpcValue) → (page == 0) ≡ false
    → unwritten id (answer.Sequence values page first) end ≡ or_else (values_refusal (encoder end.terms.encoding) values) (or_else (body_refusal (encoder end.terms.encoding) (message_value (response_by id (answer.Sequence values page first) end))) (pages_refusal (encoder end.terms.encoding) (page_values (length values) page (drop first values))))
unwritten_in_order id values page first end p = refused_in_order (encoder end.terms.encoding) id values page first (length end.producer + 1) p

-- pages that are asked for, and sequences that are given up

pub asked_so : (n number : ℕ) (followed : List Followed) (token : Id) → token_at (found n followed) ≡ Some token → page_asked n number followed ≡ turn_message number token ∷ []
asked_so n number followed token e = ap (λ (o : Option Id). with_token o (turn_message number)) e

pub left_so : (n : ℕ) (followed : List Followed) (token : Id) → token_at (found n followed) ≡ Some token → pages_left n followed ≡ abort_message token ∷ []
left_so n followed token e = ap (λ (o : Option Id). with_token o abort_message) e

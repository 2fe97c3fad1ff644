-- What an end answers to calls.
use Rattle.std.specs.Prelude.{ℕ, List, ◌∷◌, ◌++◌, length, min, Bool, true, false, if◌then◌else◌, Option, Some, None, Result, Ok, Err, is_none, OnOk, IfOk}
use Rattle.std.proofs.Common.{◌≡◌, refl, sym, ◌∙◌, ap, subst}
use Rattle.std.proofs.lemmas.List.{append-nil}
use Rattle.wire_base.specs.declared.fault.CallFault.{CallFault}
use Rattle.wire_base.specs.declared.fault.CallFault.TheVariants as fault
use Rattle.wire_base.specs.declared.frame.Version.{Version}
use Rattle.wire_base.specs.declared.refusal.Refusal.{Refusal}
use Rattle.wire_base.specs.declared.state.Cause.{Cause}
use Rattle.wire_base.specs.declared.state.Cause.TheVariants as causes
use Rattle.wire_base.specs.declared.state.EndState.TheVariants as state
use Rattle.wire_base.specs.States.{state_by}
use Rattle.frame_reader.specs.Unread.{Unread}
use Rattle.mux_items.specs.declared.channel.ChannelKey.{ChannelKey}
use Rattle.mux_items.specs.Bodies.{frame_texts}
use Rattle.mux_items.specs.Items.{Item, End, ended}
use Rattle.mux_items.specs.Kept.{is_kept}
use Rattle.mux_items.specs.Lists.{unread}
use Rattle.mux_items.specs.Applying.{Allowed}
use Rattle.mux_state.specs.State.{ChannelState, channel_at, kept_state}
use Rattle.mux_state.specs.Tests.{on_kept, read_test}
use Rattle.mux_state.specs.Book.{Book, Standing, Kept, Gone, book_of, due_of_book, kept_in, next_book}
use Rattle.mux_state.proofs.Booking.{book_step}
use Rattle.mux_state.proofs.Dues.{due_by_book}
use Rattle.mux_end.specs.Ends.{finished, value_in, with_end}
use Rattle.mux_end.specs.Known.{Leaves, count_found, unread_found}
use Rattle.mux_end.specs.Replies.{Adds, CallAnswers, EndsBy, FeedAnswers, is_spent}
use Rattle.mux_end.specs.Stands.{EndValue, MuxStands}

-- an end that stands for items isn't stopped
runs_or_ended : (cause : Option Cause) → state_by cause ≡ state.Stopped → ⊥
runs_or_ended None e = cc
runs_or_ended (Some cause) e = cc

pub never_stopped : (end : EndValue) (items : List Item) (at : ℕ) (rest : List ℕ) → MuxStands end items at rest → end.state ≡ state.Stopped → ⊥
never_stopped end items at rest s e = runs_or_ended (ended items) (sym s.state ∙ e)

-- an end that goes on as its book says adds an item
pub adds_item : (old new : EndValue) (items : List Item) (at at' : ℕ) (rest rest' : List ℕ) (item : Item) → MuxStands old items at rest → Allowed old.version (item ∷ items) → new.version ≡ old.version → new.nonce ≡ old.nonce
    → new.book ≡ next_book item old.book → new.output ≡ old.output ++ frame_texts old.version (due_of_book item old.book) → new.state ≡ state_by (next_book item old.book).cause → new.at ≡ at' → new.rest ≡ rest' → Adds old new items at' rest' item
adds_item old new items at at' rest rest' item s ok same nonce_is is wrote stands at_is rest_is =
    let v = old.version in
    let next : next_book item old.book ≡ book_of v (item ∷ items) = ap (next_book item) s.book ∙ sym (book_step v item items ok) in
    record {
      stands = record {
        book = is ∙ (next ∙ ap (λ w. book_of w (item ∷ items)) (sym same));
        at_is = at_is;
        rest_is = rest_is;
        state = stands ∙ ap (λ (b : Book). state_by b.cause) next;
        allowed = subst (λ w. Allowed w (item ∷ items)) (sym same) ok;
      };
      output = wrote ∙ (ap (λ (b : Book). old.output ++ frame_texts v (due_of_book item b)) s.book ∙ ap (λ frames. old.output ++ frame_texts v frames) (sym (due_by_book v item items ok)));
      terms = record { version = same; nonce = nonce_is };
    }

adds : (nonce output output' : List ℕ) (book book' : Book) (reader : Unread) (items : List Item) (at : ℕ) (rest : List ℕ) (item : Item) → MuxStands (value_in nonce book output reader false) items at rest
    → Allowed book.version (item ∷ items) → book' ≡ next_book item book → output' ≡ output ++ frame_texts book.version (due_of_book item book)
    → Adds (value_in nonce book output reader false) (value_in nonce book' output' reader false) items at rest item
adds nonce output output' book book' reader items at rest item s ok is wrote =
    adds_item (value_in nonce book output reader false) (value_in nonce book' output' reader false) items at at rest rest item s ok (ap (λ (b : Book). b.version) is) refl is wrote (ap (λ (b : Book). state_by b.cause) is) s.at_is s.rest_is

module _ {A : Type 0} (nonce output output' : List ℕ) (book book' : Book) (reader : Unread) (items : List Item) (at : ℕ) (rest : List ℕ) (item : Item) (IsAnswer : A → Type 0) where
  answered : (test : Option Refusal) (given : Result A CallFault) → MuxStands (value_in nonce book output reader false) items at rest → (test ≡ None → Allowed book.version (item ∷ items))
      → Leaves test book (next_book item book) book' given → OnOk given (output' ≡ output ++ frame_texts book.version (due_of_book item book))
      → ((r : Refusal) → given ≡ Err (fault.Refused r) → output' ≡ output) → IfOk given IsAnswer
      → CallAnswers (value_in nonce book output reader false) (finished given (value_in nonce book' output' reader false)) items at rest test item IsAnswer given
  answered None (Ok x) s ok leaves wrote still answer = (adds nonce output output' book book' reader items at rest item s (ok refl) leaves wrote, answer)
  answered None (Err fault.OutOfMemory) s ok leaves wrote still answer = refl
  answered None (Err (fault.Refused r)) s ok leaves wrote still answer = absurd leaves
  answered (Some r) (Err (fault.Refused t)) s ok leaves wrote still answer = (leaves.0, λ i. value_in nonce (leaves.1 i) (still t refl i) reader false)
  answered (Some r) (Err fault.OutOfMemory) s ok leaves wrote still answer = absurd leaves
  answered (Some r) (Ok x) s ok leaves wrote still answer = absurd leaves

  -- a call of an end that isn't stopped
  pub call_answers : (stopped : Bool) (old new : EndValue) (refused test : Option Refusal) (given result : Result A CallFault) → value_in nonce book output reader stopped ≡ old → stopped ≡ false → MuxStands old items at rest
      → refused ≡ test → (refused ≡ None → Allowed old.version (item ∷ items)) → Leaves test book (next_book item book) book' given → OnOk given (output' ≡ output ++ frame_texts book.version (due_of_book item book))
      → ((r : Refusal) → given ≡ Err (fault.Refused r) → output' ≡ output) → IfOk given IsAnswer
      → new ≡ finished given (value_in nonce book' output' reader stopped) → result ≡ given → CallAnswers old new items at rest refused item IsAnswer result
  call_answers stopped old new refused test given result is running s law ok leaves wrote still answer new_is result_is =
      let here : value_in nonce book output reader false ≡ old = ap (value_in nonce book output reader) (sym running) ∙ is in
      let stands : MuxStands (value_in nonce book output reader false) items at rest = subst (λ (e : EndValue). MuxStands e items at rest) (sym here) s in
      let done = answered test given stands (λ none. subst (λ v. Allowed v (item ∷ items)) (ap (λ (e : EndValue). e.version) (sym here)) (ok (law ∙ none))) leaves wrote still answer in
      subst (λ (r : Result A CallFault). CallAnswers old new items at rest refused item IsAnswer r) (sym result_is)
      (subst (λ (n : EndValue). CallAnswers old n items at rest refused item IsAnswer given) (ap (λ b. finished given (value_in nonce book' output' reader b)) (sym running) ∙ sym new_is)
      (subst (λ (o : Option Refusal). CallAnswers old (finished given (value_in nonce book' output' reader false)) items at rest o item IsAnswer given) (sym law)
      (subst (λ (e : EndValue). CallAnswers e (finished given (value_in nonce book' output' reader false)) items at rest test item IsAnswer given) here done)))

-- what a read hands over is what is unread
kept_is : (v : Version) (c : ChannelKey) (items : List Item) (kept : Bool) (s : ChannelState) → (if kept then Some (channel_at v c items) else None) ≡ Some s → s ≡ channel_at v c items
kept_is v c items true s e = cc
kept_is v c items false s e = absurd cc

pub unread_is : (v : Version) (c : ChannelKey) (items : List Item) (found : Option Standing) → kept_in found ≡ kept_state v c items → on_kept (kept_in found) read_test ≡ None → unread_found found ≡ unread v c items
unread_is v c items None e none = absurd cc
unread_is v c items (Some (Gone tally)) e none = absurd cc
unread_is v c items (Some (Kept now)) e none = ap (λ (s : ChannelState). s.unread) (kept_is v c items (is_kept v c items) now (sym e))

pub count_is : (max : ℕ) (v : Version) (c : ChannelKey) (items : List Item) (found : Option Standing) → kept_in found ≡ kept_state v c items → on_kept (kept_in found) read_test ≡ None → count_found max found ≡ min max (length (unread v c items))
count_is max v c items None e none = absurd cc
count_is max v c items (Some (Gone tally)) e none = absurd cc
count_is max v c items (Some (Kept now)) e none = ap (λ (s : ChannelState). min max (length s.unread)) (kept_is v c items (is_kept v c items) now (sym e))

-- a call that answers no more than that it was accepted
pub any_answer : {A : Type 0} (r : Result A CallFault) → IfOk r (λ _. Unit {0})
any_answer (Ok x) = tt
any_answer (Err e) = tt

-- what an accepted call answers
pub answer_where : {A : Type 0} (test : Option Refusal) (r : Result A CallFault) (P Q : A → Type 0) (before after new : Book) → Leaves test before after new r → (test ≡ None → (x : A) → P x → Q x) → IfOk r P → IfOk r Q
answer_where None (Ok x) P Q before after new h f p = f refl x p
answer_where (Some t) (Ok x) P Q before after new h f p = absurd h
answer_where test (Err e) P Q before after new h f p = tt

-- a running end runs by its items, and ends
running_none : (cause : Option Cause) → state_by cause ≡ state.Running → cause ≡ None
running_none None e = refl
running_none (Some cause) e = absurd cc

pub still_running : (end : EndValue) (items : List Item) (at : ℕ) (rest : List ℕ) → MuxStands end items at rest → end.state ≡ state.Running → ended items ≡ None
still_running end items at rest s running = running_none (ended items) (sym s.state ∙ running)

pub ends : (old new : EndValue) (items : List Item) (at : ℕ) (rest : List ℕ) (cause : Cause) → MuxStands old items at rest → old.state ≡ state.Running → new ≡ with_end cause old → Adds old new items at rest (End cause)
ends old new items at rest cause s running is =
    subst (λ (n : EndValue). Adds old n items at rest (End cause)) (sym is)
    (adds_item old (with_end cause old) items at at rest rest (End cause) s (ap (λ (c : Option Cause). is_none c) (still_running old items at rest s running), s.allowed) refl refl refl (sym (append-nil old.output)) refl s.at_is s.rest_is)

pub ends_by : (old new : EndValue) (items : List Item) (at : ℕ) (rest : List ℕ) (cause : Cause) → MuxStands old items at rest → old.state ≡ state.Running → new ≡ with_end cause old → EndsBy old new items at rest cause (ended items)
ends_by old new items at rest cause s running is =
    subst (λ (o : Option Cause). EndsBy old new items at rest cause o) (sym (still_running old items at rest s running)) (ends old new items at rest cause s running is)

-- an end that would be fed too much
pub spends : (old new : EndValue) (items : List Item) (at : ℕ) (rest piece : List ℕ) → MuxStands old items at rest → old.state ≡ state.Running → is_spent old.at old.rest piece ≡ true → new ≡ with_end causes.Spent old
    → FeedAnswers old new items at rest piece (ended items) (is_spent at rest piece) (Ok (state.Ended causes.Spent))
spends old new items at rest piece s running spent is =
    subst (λ (o : Option Cause). FeedAnswers old new items at rest piece o (is_spent at rest piece) (Ok (state.Ended causes.Spent))) (sym (still_running old items at rest s running))
    (subst (λ b. FeedAnswers old new items at rest piece None b (Ok (state.Ended causes.Spent))) (sym spent ∙ (λ i. is_spent (s.at_is i) (s.rest_is i) piece))
    (refl, ends old new items at rest causes.Spent s running is))

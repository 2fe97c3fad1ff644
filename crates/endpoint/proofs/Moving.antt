-- What a call that is made inside makes of a multiplexing end.
use Rattle.std.specs.Prelude.{ℕ, List, [], ◌∷◌, Bool, true, false, if◌then◌else◌, Option, Some, None, Result, Ok, Err, OnOk}
use Rattle.std.proofs.Common.{◌≡◌, refl, sym, ◌∙◌, ap, subst}
use Rattle.std.proofs.lemmas.Bool.{true≢false}
use Rattle.std.proofs.lemmas.List.{append-nil}
use Rattle.wire_base.specs.declared.fault.CallFault.{CallFault}
use Rattle.wire_base.specs.declared.fault.CallFault.TheVariants as fault
use Rattle.wire_base.specs.declared.out_of_memory.OutOfMemory.{OutOfMemory}
use Rattle.wire_base.specs.declared.refusal.Refusal.{Refusal}
use Rattle.mux_items.specs.declared.call.Call.TheVariants as call
use Rattle.mux_items.specs.declared.channel.ChannelKey.{ChannelKey}
use Rattle.mux_items.specs.declared.channel.ChannelView.{ChannelView}
use Rattle.mux_items.specs.Calls.{called, unless_refused}
use Rattle.mux_items.specs.Due.{due, sent}
use Rattle.mux_items.specs.Items.{Item, DidComplete, DidRead}
use Rattle.mux_items.specs.Kept.{is_kept}
use Rattle.mux_items.specs.Lists.{has_completed}
use Rattle.mux_items.specs.Refusals.{complete_refusal, read_refusal}
use Rattle.mux_items.proofs.Permits.{complete_permits, read_permits}
use Rattle.mux_end.specs.Replies.{Adds, CallAnswers}
use Rattle.mux_end.specs.Stands.{EndValue, MuxStands}
use Rattle.endpoint_items.specs.Following.{complete_once, followed}
use Rattle.endpoint.specs.Changes.{Moves, MovesIf}
use Rattle.endpoint.specs.Refusing.{TellsMemory}

still : (end : EndValue) (items : List Item) (at : ℕ) (rest : List ℕ) → MuxStands end items at rest → Moves end end items items at rest
still end items at rest s = record {
  stands = s;
  sends = record { frames = []; sent_are = sym (append-nil (sent end.version items)); output = sym (append-nil end.output) };
  terms = record { version = refl; nonce = refl };
}

moved : (old new : EndValue) (items : List Item) (at : ℕ) (rest : List ℕ) (item : Item) → Adds old new items at rest item → Moves old new items (item ∷ items) at rest
moved old new items at rest item add = record { stands = add.stands; sends = record { frames = due old.version item items; sent_are = refl; output = add.output }; terms = add.terms }

module _ {A B : Type 0} (old new : EndValue) (items : List Item) (at : ℕ) (rest : List ℕ) (item : Item) (IsAnswer : A → Type 0) (s : MuxStands old items at rest) where
  -- a call adds its item, unless it is refused
  pub moves_if : (refused : Option Refusal) (given : Result A CallFault) (result : Result B OutOfMemory) → CallAnswers old new items at rest refused item IsAnswer given → TellsMemory given result
      → MovesIf old new items (unless_refused refused item items) at rest result
  moves_if None (Ok x) (Ok y) h tells = moved old new items at rest item h.0
  moves_if None (Ok x) (Err e) h tells = absurd tells
  moves_if None (Err fault.OutOfMemory) (Err e) h tells = h
  moves_if None (Err fault.OutOfMemory) (Ok y) h tells = absurd tells
  moves_if None (Err (fault.Refused t)) result h tells = absurd h
  moves_if (Some r) (Err (fault.Refused t)) (Ok y) h tells = subst (λ (n : EndValue). Moves old n items items at rest) (sym h.1) (still old items at rest s)
  moves_if (Some r) (Err (fault.Refused t)) (Err e) h tells = absurd tells
  moves_if (Some r) (Err fault.OutOfMemory) result h tells = absurd h
  moves_if (Some r) (Ok x) result h tells = absurd h

  -- a call that is refused in any case
  stays_if : (refused : Option Refusal) (given : Result A CallFault) (result : Result B OutOfMemory) → (refused ≡ None → ⊥) → CallAnswers old new items at rest refused item IsAnswer given → TellsMemory given result
      → MovesIf old new items items at rest result
  stays_if None given result never h tells = absurd (never refl)
  stays_if (Some r) given result never h tells = moves_if (Some r) given result h tells

-- writing is completed once
pub complete_moves : {A B : Type 0} (old new : EndValue) (key : ChannelKey) (items : List Item) (at : ℕ) (rest : List ℕ) (IsAnswer : A → Type 0) (given : Result A CallFault) (result : Result B OutOfMemory) → MuxStands old items at rest
    → CallAnswers old new items at rest (complete_refusal old.version key items) (DidComplete key) IsAnswer given → TellsMemory given result
    → MovesIf old new items (followed old.version (complete_once key items) items) at rest result
complete_moves old new key items at rest IsAnswer given result s h tells = by (has_completed key items) refl
  where
    by : (has : Bool) → has_completed key items ≡ has → MovesIf old new items (followed old.version (if has then [] else call.Complete key ∷ []) items) at rest result
    by false e = moves_if old new items at rest (DidComplete key) IsAnswer s (complete_refusal old.version key items) given result h tells
    by true e = stays_if old new items at rest (DidComplete key) IsAnswer s (complete_refusal old.version key items) given result
        (λ none. true≢false (sym e ∙ (complete_permits old.version key items none).uncompleted)) h tells

-- the unread bytes that a kept channel shows

pub shown_unread : (kept : Bool) (view shown : ChannelView) → Some view ≡ (if kept then Some shown else None) → kept ≡ true → view.unread ≡ shown.unread
shown_unread true view shown is there = let same : view ≡ shown = cc in ap (λ (w : ChannelView). w.unread) same
shown_unread false view shown is there = absurd cc

pub shown_where_kept : {A : Type 0} (kept : Bool) (shown : A) → None ≡ (if kept then Some shown else None) → kept ≡ true → ⊥
shown_where_kept true shown is there = cc
shown_where_kept false shown is there = cc

-- all that is unread is read, where this many bytes are

same_read : (key : ChannelKey) (count total : ℕ) (items : List Item) (refused : Option Refusal) → (refused ≡ None → count ≡ total) → unless_refused refused (DidRead key count) items ≡ unless_refused refused (DidRead key total) items
same_read key count total items None same = ap (λ n. DidRead key n ∷ items) (same refl)
same_read key count total items (Some r) same = refl

pub read_moves : {A B : Type 0} (old new : EndValue) (key : ChannelKey) (count total : ℕ) (items : List Item) (at : ℕ) (rest : List ℕ) (IsAnswer : A → Type 0) (given : Result A CallFault) (result : Result B OutOfMemory) → MuxStands old items at rest
    → (is_kept old.version key items ≡ true → count ≡ total) → CallAnswers old new items at rest (read_refusal old.version key items) (DidRead key count) IsAnswer given → TellsMemory given result
    → MovesIf old new items (called old.version (call.Read key total) items) at rest result
read_moves old new key count total items at rest IsAnswer given result s same h tells =
    subst (λ (l : List Item). MovesIf old new items l at rest result) (same_read key count total items (read_refusal old.version key items) (λ none. same (read_permits old.version key items none)))
    (moves_if old new items at rest (DidRead key count) IsAnswer s (read_refusal old.version key items) given result h tells)

pub all_read : {A : Type 0} (refused : Option Refusal) (old new : EndValue) (items : List Item) (at : ℕ) (rest : List ℕ) (item : Item) (IsAnswer : A → Type 0) (given : Result A CallFault) (result : Result (Unit {0}) OutOfMemory) (x : Unit {0}) (P : Type 0) → refused ≡ None
    → CallAnswers old new items at rest refused item IsAnswer given → TellsMemory given result → result ≡ Ok x → OnOk given P → P
all_read None old new items at rest item IsAnswer (Ok n) result x P none h tells is p = p
all_read None old new items at rest item IsAnswer (Err fault.OutOfMemory) (Ok y) x P none h tells is p = absurd tells
all_read None old new items at rest item IsAnswer (Err fault.OutOfMemory) (Err e) x P none h tells is p = absurd cc
all_read None old new items at rest item IsAnswer (Err (fault.Refused r)) result x P none h tells is p = absurd h
all_read (Some r) old new items at rest item IsAnswer given result x P none h tells is p = absurd cc

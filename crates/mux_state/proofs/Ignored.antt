-- After the own termination only the peer's is heeded.
use Rattle.std.specs.Prelude.{ℕ, ◌+◌, List, [], ◌∷◌, length, drop, Bool, true, false, not, ◌&&◌, ◌||◌, if◌then◌else◌, Option}
use Rattle.std.proofs.Common.{◌≡◌, refl, sym, ◌∙◌, ap}
use Rattle.std.proofs.lemmas.Bool.{false≢true}
use Rattle.wire_base.specs.declared.frame.Version.{Version}
use Rattle.mux_items.specs.declared.channel.ChannelKey.{ChannelKey}
use Rattle.mux_items.specs.Bodies.{OfferAccepted, Content, ContentWritingCompleted, ContentProcessed, same_key, window_of}
use Rattle.mux_items.specs.Items.{Item, Got}
use Rattle.mux_items.specs.Lists.{written, is_cut, emitted, has_terminated, is_terminated_by_peer, completion_emitted, termination_emitted, taken, is_accepted, is_completed, acknowledged, granted, is_dropped, handed}
use Rattle.mux_items.specs.Applying.{Allowed}
use Rattle.mux_items.proofs.Taking.{termination_more}
use Rattle.mux_items.proofs.Emits.{done_more, still_over}
use Rattle.mux_state.specs.State.{ChannelState, pending_bytes, channel_at}
use Rattle.mux_state.specs.Next.{framed_state, settled}
use Rattle.mux_state.proofs.Fields.{same_state}

-- an item that emits nothing and completes nothing
pub record StaysSent (v : Version) (c : ChannelKey) (item : Item) (items : List Item) : Type 0 where
  pub emitted : emitted v c (item ∷ items) ≡ emitted v c items
  pub completion : completion_emitted v c (item ∷ items) ≡ completion_emitted v c items

both_or_neither : (a b : Bool) → (a ≡ true → b ≡ true) → (b ≡ true → a ≡ true) → a ≡ b
both_or_neither true b f g = sym (f refl)
both_or_neither false true f g = g refl
both_or_neither false false f g = refl

pub stays_sent : (v : Version) (c : ChannelKey) (item : Item) (items : List Item) → Allowed v (item ∷ items) → termination_emitted v c items ≡ true → StaysSent v c item items
stays_sent v c item items ok sent =
    let still = still_over v c item items ok sent in
    record { emitted = still.emitted; completion = both_or_neither (completion_emitted v c (item ∷ items)) (completion_emitted v c items) still.completion (done_more v c item items ok) }

quiet : {A : Type 0} (same terminated : Bool) (x y : A) → terminated ≡ true → (if same && not terminated then x else y) ≡ y
quiet true true x y e = refl
quiet false true x y e = refl
quiet same false x y e = absurd (false≢true e)

pub settled_sent : (s : ChannelState) (next : ChannelState) → s.termination_sent ≡ true → settled (if s.termination_sent then s else next) ≡ s
settled_sent s next e = rw e refl

unread_same : (h p a a' : Bool) (bytes : List ℕ) → a ≡ a' → (if h || (p && not a) then [] else bytes) ≡ (if h || (p && not a') then [] else bytes)
unread_same h p a a' bytes e = ap (λ b. if h || (p && not b) then [] else bytes) e

pub ignored_answer : (v : Version) (place : ℕ) (c : ChannelKey) (size : Option ℕ) (items : List Item) → Allowed v (Got place c (OfferAccepted size) ∷ items) → termination_emitted v c items ≡ true
    → channel_at v c (Got place c (OfferAccepted size) ∷ items) ≡ settled (framed_state (OfferAccepted size) (channel_at v c items))
ignored_answer v place c size items ok sent =
    let item = Got place c (OfferAccepted size) in
    let stays = stays_sent v c item items ok sent in
    let accepted = quiet (same_key c c) (termination_emitted v c items) true (is_accepted v c items) sent in
    same_state (channel_at v c (item ∷ items)) (channel_at v c items) refl refl refl accepted refl (ap (λ n. pending_bytes (is_cut c items) n (written c items)) stays.emitted) stays.emitted refl stays.completion
    (quiet (same_key c c) (termination_emitted v c items) (granted v c items + window_of size) (granted v c items) sent) refl refl
    (unread_same (has_terminated c items) (is_terminated_by_peer c items) (is_accepted v c (item ∷ items)) (is_accepted v c items) (drop (handed v c items) (taken v c items)) accepted) refl refl (termination_more v c item items sent ok ∙ sym sent) refl
    ∙ sym (settled_sent (channel_at v c items) _ sent)

pub ignored_content : (v : Version) (place : ℕ) (c : ChannelKey) (bytes : List ℕ) (items : List Item) → Allowed v (Got place c (Content bytes) ∷ items) → termination_emitted v c items ≡ true
    → channel_at v c (Got place c (Content bytes) ∷ items) ≡ settled (framed_state (Content bytes) (channel_at v c items))
ignored_content v place c bytes items ok sent =
    let item = Got place c (Content bytes) in
    let stays = stays_sent v c item items ok sent in
    let same : taken v c (item ∷ items) ≡ taken v c items = quiet (same_key c c) (termination_emitted v c items) _ (taken v c items) sent in
    same_state (channel_at v c (item ∷ items)) (channel_at v c items) refl refl refl refl refl (ap (λ n. pending_bytes (is_cut c items) n (written c items)) stays.emitted) stays.emitted refl stays.completion
    refl refl (ap length same) (ap (λ bs. if is_dropped v c items then [] else drop (handed v c items) bs) same) refl refl (termination_more v c item items sent ok ∙ sym sent) refl
    ∙ sym (settled_sent (channel_at v c items) _ sent)

pub ignored_completion : (v : Version) (place : ℕ) (c : ChannelKey) (items : List Item) → Allowed v (Got place c ContentWritingCompleted ∷ items) → termination_emitted v c items ≡ true
    → channel_at v c (Got place c ContentWritingCompleted ∷ items) ≡ settled (framed_state ContentWritingCompleted (channel_at v c items))
ignored_completion v place c items ok sent =
    let item = Got place c ContentWritingCompleted in
    let stays = stays_sent v c item items ok sent in
    same_state (channel_at v c (item ∷ items)) (channel_at v c items) refl refl refl refl refl (ap (λ n. pending_bytes (is_cut c items) n (written c items)) stays.emitted) stays.emitted refl stays.completion
    refl refl refl refl refl (quiet (same_key c c) (termination_emitted v c items) true (is_completed v c items) sent) (termination_more v c item items sent ok ∙ sym sent) refl
    ∙ sym (settled_sent (channel_at v c items) _ sent)

pub ignored_credit : (v : Version) (place : ℕ) (c : ChannelKey) (count : ℕ) (items : List Item) → Allowed v (Got place c (ContentProcessed count) ∷ items) → termination_emitted v c items ≡ true
    → channel_at v c (Got place c (ContentProcessed count) ∷ items) ≡ settled (framed_state (ContentProcessed count) (channel_at v c items))
ignored_credit v place c count items ok sent =
    let item = Got place c (ContentProcessed count) in
    let stays = stays_sent v c item items ok sent in
    same_state (channel_at v c (item ∷ items)) (channel_at v c items) refl refl refl refl refl (ap (λ n. pending_bytes (is_cut c items) n (written c items)) stays.emitted) stays.emitted refl stays.completion
    (quiet (same_key c c) (termination_emitted v c items) (granted v c items + count) (granted v c items) sent) (quiet (same_key c c) (termination_emitted v c items) (acknowledged v c items + count) (acknowledged v c items) sent) refl refl refl refl (termination_more v c item items sent ok ∙ sym sent) refl
    ∙ sym (settled_sent (channel_at v c items) _ sent)

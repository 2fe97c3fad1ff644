-- A channel's state by its parts, and items that change none or few of them.
use Rattle.std.specs.Prelude.{ℕ, ◌+◌, min, List, [], ◌∷◌, length, drop, Bool, true, false, not, ◌&&◌, ◌||◌, if◌then◌else◌}
use Rattle.std.proofs.Common.{◌≡◌, refl, sym, ◌∙◌, ap, arith}
use Rattle.std.proofs.lemmas.List.{drop-drop, drop_all}
use Rattle.wire_base.specs.declared.frame.Version.{Version}
use Rattle.wire_base.specs.declared.state.Cause.{Cause}
use Rattle.mux_items.specs.declared.channel.ChannelKey.{ChannelKey}
use Rattle.mux_items.specs.declared.party.Party.{Party}
use Rattle.mux_items.specs.Bodies.{Offer, OfferAccepted, ContentWritingCompleted, ContentProcessed, same_key, window_of}
use Rattle.mux_items.specs.Items.{Item, Hello, DidRead, DidTerminate, Got, End, names}
use Rattle.mux_items.specs.Lists.{written, is_cut, emitted_in, emitted, has_completed, has_terminated, is_terminated_by_peer, is_rejected, completion_in, completion_emitted, termination_emitted, taken, is_completed, acknowledged, granted, is_dropped, unread_count, handed, unread}
use Rattle.mux_items.proofs.Keys.{same_key_refl}
use Rattle.mux_items.proofs.Emission.{written_unnamed, cut_unnamed, emitted_unnamed, before_same}
use Rattle.mux_items.proofs.Apart.{unheeded, skipped, window_unnamed, has_completed-restricted, is_terminated_by_peer-restricted, completion_emitted-restricted, termination_unnamed, taken_unnamed, accepted_unnamed, handed_unnamed, unread_unnamed}
use Rattle.mux_items.proofs.Taking.{finished_in}
use Rattle.mux_items.proofs.Window.{length-unread}
use Rattle.mux_state.specs.State.{ChannelState, pending_bytes, channel_at}
use Rattle.mux_state.specs.Next.{read_state, terminated_state, ended_state}

pub same_state : (a b : ChannelState) → a.version ≡ b.version → a.own ≡ b.own → a.window ≡ b.window → a.accepted ≡ b.accepted → a.written ≡ b.written → a.pending ≡ b.pending → a.emitted ≡ b.emitted → a.completing ≡ b.completing
    → a.completion_sent ≡ b.completion_sent → a.granted ≡ b.granted → a.acknowledged ≡ b.acknowledged → a.taken ≡ b.taken → a.unread ≡ b.unread → a.handed ≡ b.handed → a.completed ≡ b.completed → a.termination_sent ≡ b.termination_sent → a.peer_terminated ≡ b.peer_terminated
    → a ≡ b
same_state a b v o w x n p e h s g k t u m d q r = λ i. record {
  version = v i;
  own = o i;
  window = w i;
  accepted = x i;
  written = n i;
  pending = p i;
  emitted = e i;
  completing = h i;
  completion_sent = s i;
  granted = g i;
  acknowledged = k i;
  taken = t i;
  unread = u i;
  handed = m i;
  completed = d i;
  termination_sent = q i;
  peer_terminated = r i;
}

pub pending_from : (b b' : Bool) (n n' : ℕ) (xs xs' : List ℕ) → b ≡ b' → n ≡ n' → xs ≡ xs' → pending_bytes b n xs ≡ pending_bytes b' n' xs'
pending_from b b' n n' xs xs' e f g = λ i. pending_bytes (e i) (f i) (g i)

granted_unnamed : (v : Version) (c : ChannelKey) (item : Item) (items : List Item) → names c item ≡ false → granted v c (item ∷ items) ≡ granted v c items
granted_unnamed v c (Got place key (Offer name size)) items e = unheeded (same_key key c) (termination_emitted v c items) (granted v c items + window_of size) (granted v c items) e
granted_unnamed v c (Got place key (OfferAccepted size)) items e = unheeded (same_key key c) (termination_emitted v c items) (granted v c items + window_of size) (granted v c items) e
granted_unnamed v c (Got place key (ContentProcessed count)) items e = unheeded (same_key key c) (termination_emitted v c items) (granted v c items + count) (granted v c items) e
granted_unnamed v c item items e = refl

acknowledged_unnamed : (v : Version) (c : ChannelKey) (item : Item) (items : List Item) → names c item ≡ false → acknowledged v c (item ∷ items) ≡ acknowledged v c items
acknowledged_unnamed v c (Got place key (ContentProcessed count)) items e = unheeded (same_key key c) (termination_emitted v c items) (acknowledged v c items + count) (acknowledged v c items) e
acknowledged_unnamed v c item items e = refl

completed_unnamed : (v : Version) (c : ChannelKey) (item : Item) (items : List Item) → names c item ≡ false → is_completed v c (item ∷ items) ≡ is_completed v c items
completed_unnamed v c (Got place key ContentWritingCompleted) items e = unheeded (same_key key c) (termination_emitted v c items) true (is_completed v c items) e
completed_unnamed v c item items e = refl

-- an item on another channel changes nothing
pub channel_unnamed : (v : Version) (c : ChannelKey) (item : Item) (items : List Item) → names c item ≡ false → channel_at v c (item ∷ items) ≡ channel_at v c items
channel_unnamed v c item items e =
    same_state (channel_at v c (item ∷ items)) (channel_at v c items) refl refl (window_unnamed c item items e) (accepted_unnamed v c item items e) (ap length (written_unnamed c item items e))
    (pending_from (is_cut c (item ∷ items)) (is_cut c items) (emitted v c (item ∷ items)) (emitted v c items) (written c (item ∷ items)) (written c items) (cut_unnamed c item items e) (emitted_unnamed v c item items e) (written_unnamed c item items e))
    (emitted_unnamed v c item items e) (skipped c (has_completed c) (has_completed-restricted c) item items e) (skipped c (completion_emitted v c) (completion_emitted-restricted v c) item items e)
    (granted_unnamed v c item items e) (acknowledged_unnamed v c item items e) (ap length (taken_unnamed v c item items e)) (unread_unnamed v c item items e) (handed_unnamed v c item items e)
    (completed_unnamed v c item items e) (termination_unnamed v c item items e) (skipped c (is_terminated_by_peer c) (is_terminated_by_peer-restricted c) item items e)

-- what an item leaves unchanged it leaves unchanged before the cut
pub channel_hello : (v : Version) (c : ChannelKey) (party : Party) (items : List Item) → channel_at v c (Hello party ∷ items) ≡ channel_at v c items
channel_hello v c party items =
    let sent : emitted v c (Hello party ∷ items) ≡ emitted v c items = before_same c (emitted_in v c) (Hello party) items refl in
    same_state (channel_at v c (Hello party ∷ items)) (channel_at v c items) refl refl refl refl refl
    (ap (λ n. pending_bytes (is_cut c items) n (written c items)) sent) sent refl (before_same c (completion_in v c) (Hello party) items refl) refl refl refl refl refl refl
    (ap (λ b. has_terminated c items || is_terminated_by_peer c items || is_rejected c items || b) (before_same c (finished_in v c) (Hello party) items refl)) refl

-- the end drops what is pending
pub channel_end : (v : Version) (c : ChannelKey) (cause : Cause) (items : List Item) → channel_at v c (End cause ∷ items) ≡ ended_state (channel_at v c items)
channel_end v c cause items = refl

read_drop : (dropped : Bool) (max moved : ℕ) (bytes : List ℕ) → (if dropped then [] else drop (moved + min max (unread_count dropped (length bytes) moved)) bytes) ≡ drop (min max (unread_count dropped (length bytes) moved)) (if dropped then [] else drop moved bytes)
read_drop true max moved bytes = sym (drop_all (min max (unread_count true (length bytes) moved)) [] (omega arith))
read_drop false max moved bytes = sym (drop-drop (min max (unread_count false (length bytes) moved)) moved bytes)

-- a read
pub channel_read : (v : Version) (c : ChannelKey) (max : ℕ) (items : List Item) → channel_at v c (DidRead c max ∷ items) ≡ read_state max (channel_at v c items)
channel_read v c max items =
    let item = DidRead c max in
    let sent : emitted v c (item ∷ items) ≡ emitted v c items = before_same c (emitted_in v c) item items refl in
    let moved : handed v c (item ∷ items) ≡ handed v c items + min max (unread_count (is_dropped v c items) (length (taken v c items)) (handed v c items)) = rw (same_key_refl c) refl in
    same_state (channel_at v c (item ∷ items)) (read_state max (channel_at v c items)) refl refl refl refl refl
    (ap (λ n. pending_bytes (is_cut c items) n (written c items)) sent) sent refl (before_same c (completion_in v c) item items refl) refl refl refl
    (ap (λ n. if is_dropped v c items then [] else drop n (taken v c items)) moved
    ∙ (read_drop (is_dropped v c items) max (handed v c items) (taken v c items)
    ∙ ap (λ n. drop (min max n) (unread v c items)) (sym (length-unread v c items))))
    (moved ∙ ap (λ n. handed v c items + min max n) (sym (length-unread v c items)))
    refl
    (ap (λ b. has_terminated c items || is_terminated_by_peer c items || is_rejected c items || b) (before_same c (finished_in v c) item items refl)) refl

-- a termination here
pub channel_terminated : (v : Version) (c : ChannelKey) (items : List Item) → channel_at v c (DidTerminate c ∷ items) ≡ terminated_state (channel_at v c items)
channel_terminated v c items = rw (same_key_refl c) refl

pub closed_drop : (terminated accepted by_peer : Bool) (bytes : List ℕ) → (if terminated || (true && not accepted) then [] else bytes) ≡ (if accepted then (if terminated || (by_peer && not accepted) then [] else bytes) else [])
closed_drop true true by_peer bytes = refl
closed_drop true false by_peer bytes = refl
closed_drop false true true bytes = refl
closed_drop false true false bytes = refl
closed_drop false false by_peer bytes = refl

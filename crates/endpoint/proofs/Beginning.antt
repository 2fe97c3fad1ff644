-- What attaching a connection answers.
use Rattle.std.specs.Prelude.{ℕ, ◌+◌, ◌≤◌, List, [], ◌∷◌, ◌++◌, length, take, drop, Bool, true, false, not, ◌&&◌, if◌then◌else◌, is_some, Option, Some, None, Result, Ok, Err, OnOk}
use Rattle.std.specs.List.{insert, position}
use Rattle.std.proofs.Common.{◌≡◌, refl, sym, ◌∙◌, ap, subst, arith, append_assoc}
use Rattle.std.proofs.lemmas.Bool.{le-ltb}
use Rattle.std.proofs.lemmas.List.{take-append-drop}
use Rattle.wire_base.specs.declared.fault.CallFault.{CallFault}
use Rattle.wire_base.specs.declared.fault.CallFault.TheVariants as fault
use Rattle.wire_base.specs.declared.frame.Version.{Version}
use Rattle.wire_base.specs.declared.refusal.Refusal.{Refusal}
use Rattle.wire_base.specs.declared.refusal.Refusal.TheVariants as refusal
use Rattle.wire_base.specs.declared.state.Cause.{Cause}
use Rattle.wire_base.specs.declared.state.Cause.TheVariants as cause
use Rattle.wire_base.specs.declared.out_of_memory.OutOfMemory.{OutOfMemory}
use Rattle.wire_base.specs.declared.state.EndState.{EndState}
use Rattle.wire_base.specs.declared.state.EndState.TheVariants as state
use Rattle.wire_base.specs.Options.{or_else}
use Rattle.wire_base.specs.States.{state_by}
use Rattle.mux_items.specs.declared.call.Call.TheVariants as call
use Rattle.mux_items.specs.declared.channel.ChannelKey.{ChannelKey}
use Rattle.mux_items.specs.declared.channel.ChannelView.{ChannelView}
use Rattle.mux_items.specs.declared.channel.Phase.{Phase}
use Rattle.mux_items.specs.declared.channel.Phase.TheVariants as phase
use Rattle.mux_items.specs.Bodies.{is_one, same_key, frame_texts}
use Rattle.mux_items.specs.Calls.{call_refusal, called, item_of_call, unless_refused}
use Rattle.mux_items.specs.Items.{Item, ended}
use Rattle.mux_items.specs.Kept.{is_kept}
use Rattle.mux_items.specs.Limits.{most_bytes}
use Rattle.mux_items.specs.Lists.{emitted, granted, has_completed, is_accepted, is_completed, is_dropped, is_terminated_by_peer, handed, phase_of, taken, termination_emitted, unread, unread_count}
use Rattle.mux_items.specs.Due.{sent}
use Rattle.mux_items.specs.Views.{insert_key, pending_count, view_of}
use Rattle.mux_items.proofs.Keys.{same_key_refl}
use Rattle.mux_items.proofs.Texts.{frame_texts-append}
use Rattle.mux_items.proofs.Window.{length-unread}
use Rattle.mux_end.specs.Stands.{EndValue, MuxStands}
use Rattle.rpc_items.specs.Items as rpc
use Rattle.rpc_end.specs.Replies as rpc_end
use Rattle.rpc_end.specs.declared.terms.Terms.{Terms}
use Rattle.rpc_end.specs.Stands.{RpcValue}
use Rattle.endpoint_items.specs.Allowed.{AreAllowed}
use Rattle.endpoint_items.specs.Bytes.{consumed, rest_of}
use Rattle.endpoint_items.specs.Calls.{Attaches, attach_refusal}
use Rattle.endpoint_items.specs.Connections.{Connection, was_attached}
use Rattle.endpoint_items.specs.Following.{attach_calls, complete_once, followed, read_all}
use Rattle.endpoint_items.specs.Items.{EndItem, Attach, terms_of}
use Rattle.endpoint_items.specs.Layers.{mux_of, rpc_of}
use Rattle.endpoint_items.proofs.Attaching.{attachable}
use Rattle.endpoint_items.proofs.Joining.{unjoined}
use Rattle.endpoint_items.proofs.Lying.{messages_lie}
use Rattle.endpoint.specs.declared.attached.Attached.{Attached}
use Rattle.endpoint.specs.Beginning.{BeginsOn, Shows, phase_refusal}
use Rattle.endpoint.specs.Changes.{Moves, insert_attached, inserted}
use Rattle.endpoint.specs.Replies.{Adds, Answers, Sends}
use Rattle.endpoint.specs.Stands.{ConnectionStands, IsConnection, Stands}
use Rattle.endpoint.specs.Value.{AreOfOne, EndpointValue, connection_at, value_in}
use Rattle.endpoint.proofs.Places.{absent_parts, inserted_found, inserted_keys, keys_of, same_key_swapped}
use Rattle.endpoint.proofs.Sending.{unstopped}
use Rattle.endpoint.proofs.RpcCalling.{found_attached, none_attached}
use Rattle.endpoint.proofs.OnChannel.{adds_on, followed_taken}

-- the refusals of a kept channel are told by its phase

phase_law : (own terminated closed accepted in_use : Bool)
    → or_else (if terminated then Some refusal.NotOpen else None) (if not own && not accepted then Some refusal.NotAccepted else if in_use then Some refusal.Attached else None)
    ≡ phase_refusal (if terminated then (if closed then phase.Closed else phase.Closing) else if accepted then phase.Live else if own then phase.Waiting else phase.Heard) in_use
phase_law own true true accepted in_use = refl
phase_law own true false accepted in_use = refl
phase_law true false closed true in_use = refl
phase_law true false closed false in_use = refl
phase_law false false closed true in_use = refl
phase_law false false closed false in_use = refl

-- why no connection can be attached to a kept channel of a running end
pub attach_law : (v : Version) (c : ChannelKey) (items : List EndItem) → ended (mux_of v items) ≡ None → is_kept v c (mux_of v items) ≡ true → attach_refusal v c items ≡ phase_refusal (phase_of v c (mux_of v items)) (was_attached (rpc_of v c items))
attach_law v c items runs kept =
    let m = mux_of v items in
    rw (runs, kept) (phase_law c.own (termination_emitted v c m) (is_terminated_by_peer c m) (is_accepted v c m) (was_attached (rpc_of v c items)))

-- no more is unread than was taken

count_within : (dropped : Bool) (took moved : ℕ) → unread_count dropped took moved ≤ took
count_within true took moved = omega arith
count_within false took moved = omega arith

pub unread_within : (v : Version) (c : ChannelKey) (m : List Item) → length (unread v c m) ≤ length (taken v c m)
unread_within v c m = omega (arith, length-unread v c m, count_within (is_dropped v c m) (length (taken v c m)) (handed v c m))

-- reading doesn't complete

read_completed : (v : Version) (c : ChannelKey) (m : List Item) → has_completed c (called v (read_all v c m) m) ≡ has_completed c m
read_completed v c m = by (call_refusal v (read_all v c m) m)
  where
    by : (r : Option Refusal) → has_completed c (unless_refused r (item_of_call (read_all v c m) m) m) ≡ has_completed c m
    by (Some refusal) = refl
    by None = refl

-- so that what follows an attachment is one call after the other
pub attach_followed : (v : Version) (c : ChannelKey) (m : List Item) → followed v (if is_completed v c m then complete_once c (called v (read_all v c m) m) else []) (called v (read_all v c m) m) ≡ followed v (attach_calls v c m) m
attach_followed v c m = ap (λ b. followed v (if is_completed v c m then (if b then [] else call.Complete c ∷ []) else []) (called v (read_all v c m) m)) (read_completed v c m)

-- a multiplexing end moves on
pub moves_on : (old mid new : EndValue) (before between after : List Item) (at : ℕ) (rest : List ℕ) → Moves old mid before between at rest → Moves mid new between after at rest → Moves old new before after at rest
moves_on old mid new before between after at rest first second =
    let v = old.version in
    let more = subst (λ w. Sends w between after mid.output new.output) first.terms.version second.sends in
    record {
      stands = second.stands;
      sends = record {
        frames = first.sends.frames ++ more.frames;
        sent_are = more.sent_are ∙ (ap (λ fs. fs ++ more.frames) first.sends.sent_are ∙ append_assoc (sent v before) first.sends.frames more.frames);
        output = more.output ∙ (ap (λ bytes. bytes ++ frame_texts v more.frames) first.sends.output ∙ (append_assoc old.output (frame_texts v first.sends.frames) (frame_texts v more.frames) ∙ ap (λ bytes. old.output ++ bytes) (sym (frame_texts-append v first.sends.frames more.frames))));
      };
      terms = record { version = second.terms.version ∙ first.terms.version; nonce = second.terms.nonce ∙ first.terms.nonce };
    }

-- the connection of a channel that had none

unattached : (x : Connection) → was_attached x ≡ false → x ≡ None
unattached (Some its) e = absurd (cc e)
unattached None e = refl

nothing : (n : ℕ) → n ≤ 0 → n ≡ 0
nothing n h = omega (arith, h)

unconsumed : (v : Version) (c : ChannelKey) (items : List EndItem) → AreAllowed v items → was_attached (rpc_of v c items) ≡ false → consumed c items ≡ 0
unconsumed v c items a new = nothing (consumed c items) (subst (λ (bytes : List ℕ). consumed c items ≤ length bytes) (unjoined v c items new) (messages_lie v c items a))

begun_rest : (v : Version) (c : ChannelKey) (terms : Terms) (items : List EndItem) → AreAllowed v items → was_attached (rpc_of v c items) ≡ false → rest_of v c (Attach c terms ∷ items) ≡ unread v c (mux_of v items)
begun_rest v c terms items a new = rw (same_key_refl c, unconsumed v c items a new, unjoined v c items new) refl

begun_items : (v : Version) (c : ChannelKey) (terms : Terms) (items : List EndItem) → was_attached (rpc_of v c items) ≡ false → rpc_of v c (Attach c terms ∷ items) ≡ Some (if is_completed v c (mux_of v items) then rpc.End cause.PeerCompleted ∷ [] else [])
begun_items v c terms items new = rw (same_key_refl c, unattached (rpc_of v c items) new) refl

begun_terms : (c : ChannelKey) (terms : Terms) (items : List EndItem) → terms_of c (Attach c terms ∷ items) ≡ terms
begun_terms c terms items = rw (same_key_refl c) refl

-- an attached connection stands where it was inserted
pub attaches : (old new : EndpointValue) (items : List EndItem) (at : ℕ) (rest : List ℕ) (c : ChannelKey) (terms : Terms) (end : RpcValue) → Stands old items at rest → attach_refusal old.mux.version c items ≡ None
    → Moves old.mux new.mux (mux_of old.mux.version items) (mux_of old.mux.version (Attach c terms ∷ items)) at rest → new.state ≡ new.mux.state → connection_at c old.connections ≡ None
    → new.connections ≡ insert_attached (record { key = c; end = end }) old.connections
    → IsConnection terms (if is_completed old.mux.version c (mux_of old.mux.version items) then rpc.End cause.PeerCompleted ∷ [] else []) 0 (unread old.mux.version c (mux_of old.mux.version items)) end
    → Adds old new items at rest (Attach c terms)
attaches old new items at rest c terms end s allowed moves state none is connection =
    let v = old.mux.version in
    let m = mux_of v items in
    let item = Attach c terms in
    let new_here = (attachable v c items allowed).new in
    let x : Attached = record { key = c; end = end } in
    adds_on old new items at rest item c end s moves state
    (ap keys_of is ∙ (inserted_keys x old.connections ∙ ap (insert_key c) s.keys))
    (ap (connection_at c) is ∙ (inserted_found x c old.connections none ∙ rw (same_key_refl c) refl))
    (λ d differs. ap (connection_at d) is ∙ (inserted_found x d old.connections none ∙ (let other = same_key_swapped d c ∙ differs in rw other refl)))
    (subst (λ con. ConnectionStands (Some end) con (terms_of c (item ∷ items)) (consumed c items) (rest_of v c (item ∷ items))) (sym (begun_items v c terms items new_here))
    (subst (λ t. IsConnection t (if is_completed v c m then rpc.End cause.PeerCompleted ∷ [] else []) (consumed c items) (rest_of v c (item ∷ items)) end) (sym (begun_terms c terms items))
    (subst (λ n. IsConnection terms (if is_completed v c m then rpc.End cause.PeerCompleted ∷ [] else []) n (rest_of v c (item ∷ items)) end) (sym (unconsumed v c items s.allowed new_here))
    (subst (λ bytes. IsConnection terms (if is_completed v c m then rpc.End cause.PeerCompleted ∷ [] else []) 0 bytes end) (sym (begun_rest v c terms items s.allowed new_here)) connection))))
    (λ d differs. record { rpc = rw differs refl; terms = rw differs refl; consumed = refl; rest = rw differs refl })
    allowed
    (λ d. followed_taken v d (attach_calls v c m) m)

-- a connection that has read what is unread

begun_by : (items : List Item) (terms : Terms) (begun fed : RpcValue) (piece : List ℕ) (spent : Bool) (r : Result EndState OutOfMemory) (answered : EndState) → rpc_end.IsBegun terms begun → fed.terms ≡ begun.terms → spent ≡ false → r ≡ Ok answered
    → rpc_end.FeedAnswers begun fed [] 0 [] piece None spent r → IsConnection terms [] 0 piece fed
begun_by items terms begun fed piece true r answered b same spent is h = absurd (cc spent)
begun_by items terms begun fed piece false (Ok s) answered b same spent is h = record { stands = h.1.stands; terms_are = same ∙ b.terms_are; written = h.1.output ∙ b.output }
begun_by items terms begun fed piece false (Err e) answered b same spent is h = absurd (cc is)

unspent : (piece : List ℕ) → length piece ≤ most_bytes → rpc_end.is_spent 0 [] piece ≡ false
unspent piece h = le-ltb rpc_end.most_fed (0 + length piece) (omega (arith, h))

pub begins_on : (old new : EndValue) (items : List Item) (at : ℕ) (rest : List ℕ) (c : ChannelKey) (terms : Terms) (begun fed : RpcValue) (piece : List ℕ) (r : Result EndState OutOfMemory) (answered : EndState)
    → Moves old new items (called old.version (read_all old.version c items) items) at rest → piece ≡ unread old.version c items → length (unread old.version c items) ≤ most_bytes → rpc_end.IsBegun terms begun → fed.terms ≡ begun.terms → r ≡ Ok answered
    → rpc_end.FeedAnswers begun fed [] 0 [] piece None (rpc_end.is_spent 0 [] piece) r → BeginsOn old new items at rest c terms fed
begins_on old new items at rest c terms begun fed piece r answered moves is within b same ok h = record {
  moves = moves;
  connection = subst (λ bytes. IsConnection terms [] 0 bytes fed) is (begun_by items terms begun fed piece (rpc_end.is_spent 0 [] piece) r answered b same (unspent piece (subst (λ bytes. length bytes ≤ most_bytes) (sym is) within)) ok h);
}

-- the connection ends where the peer has completed
pub completion_ends : (terms : Terms) (at : ℕ) (rest : List ℕ) (old new : RpcValue) → rpc_end.EndsBy old new [] at rest cause.PeerCompleted None → IsConnection terms [] at rest old → IsConnection terms (rpc.End cause.PeerCompleted ∷ []) at rest new
completion_ends terms at rest old new h c = record { stands = h.stands; terms_are = h.terms_stay ∙ c.terms_are; written = h.output ∙ ap (λ bytes. bytes ++ []) c.written }

-- what the whole attachment adds
pub attaches_by : (mux mid now : EndValue) (xs : List Attached) (stopped : Bool) (new : EndpointValue) (items : List EndItem) (at : ℕ) (rest : List ℕ) (c : ChannelKey) (terms : Terms) (completed : Bool) (begun end : RpcValue)
    → Stands (value_in mux xs stopped) items at rest → attach_refusal mux.version c items ≡ None → completed ≡ is_completed mux.version c (mux_of mux.version items) → connection_at c xs ≡ None
    → BeginsOn mux mid (mux_of mux.version items) at rest c terms begun
    → ((m : List Item) → MuxStands mid m at rest → Moves mid now m (followed mid.version (if completed then complete_once c m else []) m) at rest)
    → ((at : ℕ) (rest : List ℕ) → IsConnection terms [] at rest begun → IsConnection terms (if completed then rpc.End cause.PeerCompleted ∷ [] else []) at rest end)
    → new ≡ inserted c end (value_in now xs stopped) → Adds (value_in mux xs stopped) new items at rest (Attach c terms)
attaches_by mux mid now xs stopped new items at rest c terms completed begun end s free done none begins later ends is =
    let v = mux.version in
    let m = mux_of v items in
    let m' = called v (read_all v c m) m in
    let made = inserted c end (value_in now xs stopped) in
    let more = subst (λ w. Moves mid now m' (followed w (if completed then complete_once c m' else []) m') at rest) begins.moves.terms.version (later m' begins.moves.stands) in
    let all = moves_on mux mid now m m' (followed v (if completed then complete_once c m' else []) m') at rest begins.moves more in
    let after : followed v (if completed then complete_once c m' else []) m' ≡ followed v (attach_calls v c m) m = ap (λ b. followed v (if b then complete_once c m' else []) m') done ∙ attach_followed v c m in
    subst (λ (n : EndpointValue). Adds (value_in mux xs stopped) n items at rest (Attach c terms)) (sym is)
    (attaches (value_in mux xs stopped) made items at rest c terms end s free (subst (λ (l : List Item). Moves mux now m l at rest) after all)
    (runs_still stopped now (unstopped stopped mux m at rest s.mux s.state)) none refl
    (subst (λ b. IsConnection terms (if b then rpc.End cause.PeerCompleted ∷ [] else []) 0 (unread v c m) end) done (ends 0 (unread v c m) begins.connection)))
  where
    runs_still : (stopped : Bool) (now : EndValue) → stopped ≡ false → (if stopped then state.Stopped else now.state) ≡ now.state
    runs_still true now e = absurd (cc e)
    runs_still false now e = refl

pub readable : (end : EndpointValue) (items : List EndItem) (at : ℕ) (rest : List ℕ) (c : ChannelKey) → Stands end items at rest → length (unread end.mux.version c (mux_of end.mux.version items)) ≤ most_bytes
readable end items at rest c s = omega (arith, unread_within end.mux.version c (mux_of end.mux.version items), s.taken_within c, s.fed_within)

pub where_ok : {A F : Type 0} (r : Result A F) (P Q : Type 0) → (P → Q) → OnOk r P → OnOk r Q
where_ok (Ok x) P Q f p = f p
where_ok (Err e) P Q f p = tt

-- what is answered

pub attach_refuses : {A B : Type 0} (old : EndpointValue) (items : List EndItem) (at : ℕ) (rest : List ℕ) (c : ChannelKey) (terms : Terms) (IsAnswer : A → Type 0) (shown : Option B) (error : CallFault) → Shows (attach_refusal old.mux.version c items) shown (Err error)
    → Answers old old items at rest (Attaches c terms) IsAnswer (Err error)
attach_refuses old items at rest c terms IsAnswer shown (fault.Refused r) h = rw h (refl, refl)
attach_refuses old items at rest c terms IsAnswer shown fault.OutOfMemory h = absurd h

pub attach_adds : (old new : EndpointValue) (items : List EndItem) (at : ℕ) (rest : List ℕ) (c : ChannelKey) (terms : Terms) → attach_refusal old.mux.version c items ≡ None → Adds old new items at rest (Attach c terms)
    → Answers {A = Unit {0}} old new items at rest (Attaches c terms) (λ _. Unit {0}) (Ok tt)
attach_adds old new items at rest c terms free adds = rw free (adds, tt)

pub attach_starves : (old new : EndpointValue) (items : List EndItem) (at : ℕ) (rest : List ℕ) (c : ChannelKey) (terms : Terms) → attach_refusal old.mux.version c items ≡ None → new.state ≡ state.Stopped
    → Answers {A = Unit {0}} old new items at rest (Attaches c terms) (λ _. Unit {0}) (Err fault.OutOfMemory)
attach_starves old new items at rest c terms free stops = rw free stops

view_by : (kept : Bool) (told view : ChannelView) → (if kept then Some told else None) ≡ Some view → told ≡ view
view_by true told view e = cc e
view_by false told view e = absurd (cc e)

told_view : Version → ChannelKey → List Item → ChannelView
told_view v c m = record { phase = phase_of v c m; unread = length (unread v c m); pending = pending_count v c m; emitted = emitted v c m; granted = if is_one v then None else Some (granted v c m); completed = is_completed v c m }

pub view_completed : (v : Version) (c : ChannelKey) (m : List Item) (view : ChannelView) → view_of v c m ≡ Some view → view.completed ≡ is_completed v c m
unfolding told_view
view_completed v c m view e = sym (ap (λ (w : ChannelView). w.completed) (view_by (is_kept v c m) (told_view v c m) view e))

-- no connection is there where the phase refuses nothing
pub unused : (p : Phase) (in_use : Bool) → None ≡ phase_refusal p in_use → in_use ≡ false
unused phase.Closing in_use e = absurd (cc e)
unused phase.Closed in_use e = absurd (cc e)
unused phase.Heard in_use e = absurd (cc e)
unused phase.Waiting false e = refl
unused phase.Waiting true e = absurd (cc e)
unused phase.Live false e = refl
unused phase.Live true e = absurd (cc e)

runs_by : (why : Option Cause) → ((cause : Cause) → state_by why ≡ state.Ended cause → ⊥) → why ≡ None
runs_by None never = refl
runs_by (Some c) never = absurd (never c refl)

pub runs : (end : EndpointValue) (items : List EndItem) (at : ℕ) (rest : List ℕ) → Stands end items at rest → ((why : Cause) → end.mux.state ≡ state.Ended why → ⊥) → ended (mux_of end.mux.version items) ≡ None
runs end items at rest s never = runs_by (ended (mux_of end.mux.version items)) (λ why e. never why (s.mux.state ∙ e))

pub none_of : {A : Type 0} (o : Option A) → ((x : A) → o ≡ Some x → ⊥) → o ≡ None
none_of None never = refl
none_of (Some x) never = absurd (never x refl)

pub no_place : (o : Option ℕ) → is_some o ≡ false → o ≡ None
no_place None e = refl
no_place (Some n) e = absurd (cc e)

gone_by : (kept : Bool) (told : ChannelView) → (if kept then Some told else None) ≡ None → kept ≡ false
gone_by true told e = absurd (cc e)
gone_by false told e = refl

kept_by : (kept : Bool) (told view : ChannelView) → (if kept then Some told else None) ≡ Some view → kept ≡ true
kept_by true told view e = refl
kept_by false told view e = absurd (cc e)

pub no_channel : (end : EndpointValue) (items : List EndItem) (at : ℕ) (rest : List ℕ) (c : ChannelKey) → Stands end items at rest → ((why : Cause) → end.mux.state ≡ state.Ended why → ⊥) → view_of end.mux.version c (mux_of end.mux.version items) ≡ None
    → attach_refusal end.mux.version c items ≡ Some refusal.NoChannel
unfolding told_view
no_channel end items at rest c s never none =
    let m = mux_of end.mux.version items in
    rw (runs end items at rest s never, gone_by (is_kept end.mux.version c m) (told_view end.mux.version c m) none) refl

used_by : (found : Option ℕ) (end : EndpointValue) (items : List EndItem) (at : ℕ) (rest : List ℕ) (c : ChannelKey) → Stands end items at rest → position (λ (attached : Attached). same_key c attached.key) end.connections ≡ found → is_some found ≡ was_attached (rpc_of end.mux.version c items)
used_by None end items at rest c s e = sym (ap was_attached (none_attached end items at rest c s e))
used_by (Some place) end items at rest c s e = sym (found_attached end items at rest place c s e)

pub phase_told : (end : EndpointValue) (items : List EndItem) (at : ℕ) (rest : List ℕ) (c : ChannelKey) (view : ChannelView) (place : Option ℕ) (in_use : Bool) → Stands end items at rest → ((why : Cause) → end.mux.state ≡ state.Ended why → ⊥)
    → view_of end.mux.version c (mux_of end.mux.version items) ≡ Some view → place ≡ position (λ (attached : Attached). same_key c attached.key) end.connections → in_use ≡ is_some place → attach_refusal end.mux.version c items ≡ phase_refusal view.phase in_use
unfolding told_view
phase_told end items at rest c view place in_use s never shown placed used =
    let v = end.mux.version in
    let m = mux_of v items in
    let told = told_view v c m in
    attach_law v c items (runs end items at rest s never) (kept_by (is_kept v c m) told view shown)
    ∙ (ap (λ (w : ChannelView). phase_refusal w.phase (was_attached (rpc_of v c items))) (view_by (is_kept v c m) told view shown)
    ∙ ap (phase_refusal view.phase) (sym (used ∙ used_by place end items at rest c s (sym placed))))

-- a connection takes any place among others

between_absent : (front back : List Attached) (x : Attached) (k : ChannelKey) → same_key k x.key ≡ false → connection_at k (front ++ back) ≡ None → connection_at k (front ++ x ∷ back) ≡ None
between_absent [] back x k differs none = rw differs none
between_absent (y ∷ ys) back x k differs none = let parts = absent_parts k y (ys ++ back) none in rw parts.0 (between_absent ys back x k differs parts.1)

one_between : (front back : List Attached) (x : Attached) → connection_at x.key (front ++ back) ≡ None → AreOfOne (front ++ back) → AreOfOne (front ++ x ∷ back)
one_between [] back x none one = (none, one)
one_between (y ∷ ys) back x none one =
    let parts = absent_parts x.key y (ys ++ back) none in
    (between_absent ys back x y.key (same_key_swapped y.key x.key ∙ parts.0) one.0, one_between ys back x parts.1 one.1)

pub one_insert : (xs : List Attached) (i : ℕ) (x : Attached) → connection_at x.key xs ≡ None → AreOfOne xs → AreOfOne (insert xs i x)
one_insert xs i x none one =
    let same = sym (take-append-drop i xs) in
    one_between (take i xs) (drop i xs) x (subst (λ l. connection_at x.key l ≡ None) same none) (subst AreOfOne same one)

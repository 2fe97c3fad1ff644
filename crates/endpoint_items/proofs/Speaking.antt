-- What was written on a channel since a connection was attached is what the connection said, up to the own completion.
use Rattle.std.specs.Prelude.{if◌then◌else◌, Bool, true, false}
use Rattle.std.proofs.Common.{◌≡◌, ℕ, List, [], ◌∷◌, ◌++◌, refl, sym, ◌∙◌, ap, subst, append-nil, Some}
use Rattle.wire_base.specs.declared.frame.Version.{Version}
use Rattle.wire_base.specs.declared.state.Cause.TheVariants as cause
use Rattle.mux_items.specs.declared.channel.ChannelKey.{ChannelKey}
use Rattle.mux_items.specs.Applying.{place_at}
use Rattle.mux_items.specs.Bodies.{same_key}
use Rattle.mux_items.specs.Items.{Item, DidTerminate}
use Rattle.mux_items.specs.Lists.{written, is_completed}
use Rattle.mux_items.proofs.Keys.{same_key_true}
use Rattle.rpc_items.specs.Items as rpc
use Rattle.rpc_items.specs.Saying.{said, all_said}
use Rattle.rpc_end.specs.declared.terms.Terms.{Terms}
use Rattle.rpc_end.specs.Texts.{message_texts}
use Rattle.endpoint_items.specs.Items.{EndItem, Mux, Attach, DidCall, GotMessage, RefusedMessage, terms_of}
use Rattle.endpoint_items.specs.Connections.{Connection, is_attached, was_attached, items_of, with_item, end_for, attached_to, end_by}
use Rattle.endpoint_items.specs.Layers.{mux_of, rpc_of}
use Rattle.endpoint_items.specs.Calls.{attach_refusal}
use Rattle.endpoint_items.specs.Allowed.{AreAllowed}
use Rattle.endpoint_items.specs.Rows.{then_read, then_complete, then_write, then_follow, row}
use Rattle.endpoint_items.specs.Spoken.{written_first, IsSpoken, Speaks}
use Rattle.endpoint_items.proofs.Attaching.{attachable}
use Rattle.endpoint_items.proofs.Rows.{follows}
use Rattle.endpoint_items.proofs.Quiet.{IsQuiet, quiet_more, quiet_item, quiet_read, quiet_complete, quiet_write, quiet_follow}
use Rattle.endpoint_items.proofs.Spoken.{spoken_quiet, spoken_more}
use Rattle.endpoint_items.proofs.Said.{ended_said, began_said, item_said, was_with, was_ended, was_if, used_other}

abbrev ConnectionSpeaks : Terms → ChannelKey → List ℕ → List Item → Connection → Type 0
ConnectionSpeaks terms c first m x = IsSpoken terms c first m (all_said (items_of x))

-- an item of its own comes to the connection of c, or to another one
item_speaks : (terms : Terms) (c : ChannelKey) (first : List ℕ) (m now : List Item) (item : rpc.RpcItem) (x : Connection) → was_attached x ≡ true → now ≡ then_write c terms (said item (items_of x)) m → ConnectionSpeaks terms c first m x → ConnectionSpeaks terms c first now (with_item item x)
item_speaks terms c first m now item x was is s =
    let more : IsSpoken terms c first now (all_said (items_of x) ++ said item (items_of x)) = subst (λ now. IsSpoken terms c first now (all_said (items_of x) ++ said item (items_of x))) (sym is) (spoken_more terms c first m (all_said (items_of x)) (said item (items_of x)) s) in
    subst (IsSpoken terms c first now) (sym (item_said item x was)) more

-- with an item of a connection
write_speaks : (v : Version) (c key : ChannelKey) (item : rpc.RpcItem) (items : List EndItem) → was_attached (rpc_of v c items) ≡ true → Speaks v c items
    → ConnectionSpeaks (terms_of c items) c (written_first v c items) (then_write key (terms_of key items) (said item (items_of (rpc_of v key items))) (mux_of v items)) (if same_key key c then with_item item (rpc_of v c items) else rpc_of v c items)
write_speaks v c key item items was s = by (same_key key c) refl
  where
    m : List Item
    m = mux_of v items

    x : Connection
    x = rpc_of v c items

    now : ChannelKey → List Item
    now k = then_write k (terms_of k items) (said item (items_of (rpc_of v k items))) m

    by : (b : Bool) → same_key key c ≡ b → ConnectionSpeaks (terms_of c items) c (written_first v c items) (now key) (if b then with_item item x else x)
    by true h = item_speaks (terms_of c items) c (written_first v c items) m (now key) item x was (ap now (same_key_true key c h)) s
    by false h = spoken_quiet (terms_of c items) c (written_first v c items) m (now key) (all_said (items_of x)) (quiet_write c key (terms_of key items) (said item (items_of (rpc_of v key items))) m h) s

-- where an item says nothing on c
quiet_speaks : (terms : Terms) (c : ChannelKey) (first : List ℕ) (m now : List Item) (x y : Connection) → IsQuiet c m now → all_said (items_of y) ≡ all_said (items_of x) → ConnectionSpeaks terms c first m x → ConnectionSpeaks terms c first now y
quiet_speaks terms c first m now x y q e s = subst (IsSpoken terms c first now) (sym e) (spoken_quiet terms c first m now (all_said (items_of x)) q s)

attach_quiet : (v : Version) (c key : ChannelKey) (m : List Item) → IsQuiet c m (if is_completed v key m then then_complete key (then_read v key m) else then_read v key m)
attach_quiet v c key m = elim (is_completed v key m) as (λ b. IsQuiet c m (if b then then_complete key (then_read v key m) else then_read v key m)) [
  | true ↦ quiet_more c m (then_read v key m) (then_complete key (then_read v key m)) (quiet_read v c key m) (quiet_complete c key (then_read v key m))
  | false ↦ quiet_read v c key m
]

-- a connection begins with nothing said
begins : (terms : Terms) (c : ChannelKey) (m now : List Item) (completed : Bool) (x : Connection) → was_attached x ≡ false → IsQuiet c m now → ConnectionSpeaks terms c (written c m) now (attached_to completed x)
begins terms c m now completed x new q = record {
  dropped = [];
  is = append-nil (written c now) ∙ (q.same ∙ (sym (append-nil (written c m)) ∙ ap (λ ms. written c m ++ message_texts terms ms) (sym (began_said completed x new))));
  all = λ e. refl;
}

row_speaks : (v : Version) (c : ChannelKey) (item : EndItem) (items : List EndItem) → AreAllowed v (item ∷ items) → (was_attached (rpc_of v c items) ≡ true → Speaks v c items) → was_attached (rpc_of v c (item ∷ items)) ≡ true
    → ConnectionSpeaks (terms_of c (item ∷ items)) c (written_first v c (item ∷ items)) (row v item items) (rpc_of v c (item ∷ items))
row_speaks v c (Mux item) items a before e =
    let m = mux_of v items in
    let x = rpc_of v c items in
    let why = end_by v c item (item ∷ m) in
    let was = sym (was_ended why x) ∙ e in
    let attached : ChannelKey → Bool = λ c. is_attached (rpc_of v c items) in
    let now = then_follow v attached item (item ∷ m) in
    let quiet = quiet_more c m (item ∷ m) now (quiet_item c item m (used_other v c item items m was a.0.1)) (quiet_follow v attached c item (item ∷ m)) in
    quiet_speaks (terms_of c items) c (written_first v c items) m now x (end_for why x) quiet (ended_said why x) (before was)
row_speaks v c (Attach key terms) items a before e = by (same_key key c) refl e
  where
    m : List Item
    m = mux_of v items

    x : Connection
    x = rpc_of v c items

    completed : Bool
    completed = is_completed v c m

    now : List Item
    now = row v (Attach key terms) items

    by : (b : Bool) → same_key key c ≡ b → was_attached (if b then attached_to completed x else x) ≡ true
        → ConnectionSpeaks (if b then terms else terms_of c items) c (if b then written c m else written_first v c items) now (if b then attached_to completed x else x)
    by true h e = begins terms c m now completed x (attachable v c items (ap (λ k. attach_refusal v k items) (sym (same_key_true key c h)) ∙ a.0)).new (attach_quiet v c key m)
    by false h e = quiet_speaks (terms_of c items) c (written_first v c items) m now x x (attach_quiet v c key m) refl (before e)
row_speaks v c (DidCall key call) items a before e =
    let was = sym (was_if (same_key key c) (rpc_of v c items) (with_item (rpc.Did call) (rpc_of v c items)) (was_with (rpc.Did call) (rpc_of v c items))) ∙ e in
    write_speaks v c key (rpc.Did call) items was (before was)
row_speaks v c (GotMessage key place size message) items a before e =
    let was = sym (was_if (same_key key c) (rpc_of v c items) (with_item (rpc.Got place message) (rpc_of v c items)) (was_with (rpc.Got place message) (rpc_of v c items))) ∙ e in
    write_speaks v c key (rpc.Got place message) items was (before was)
row_speaks v c (RefusedMessage key place reason) items a before e =
    let m = mux_of v items in
    let x = rpc_of v c items in
    let why = Some (cause.Refused (place_at place) reason) in
    let was = sym (was_if (same_key key c) x (end_for why x) (was_ended why x)) ∙ e in
    let same : all_said (items_of (if same_key key c then end_for why x else x)) ≡ all_said (items_of x) =
    elim (same_key key c) as (λ b. all_said (items_of (if b then end_for why x else x)) ≡ all_said (items_of x)) [ true ↦ ended_said why x | false ↦ refl ] in
    quiet_speaks (terms_of c items) c (written_first v c items) m (DidTerminate key ∷ m) x (if same_key key c then end_for why x else x) (quiet_item c (DidTerminate key) m refl) same (before was)

pub spoken : (v : Version) (c : ChannelKey) (items : List EndItem) → AreAllowed v items → was_attached (rpc_of v c items) ≡ true → Speaks v c items
spoken v c [] a e = cc
spoken v c (item ∷ items) a e =
    subst (λ m. ConnectionSpeaks (terms_of c (item ∷ items)) c (written_first v c (item ∷ items)) m (rpc_of v c (item ∷ items))) (sym (follows v item items a))
    (row_speaks v c item items a (spoken v c items a.1) e)

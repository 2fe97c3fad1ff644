-- What calls, and what follows an item, add to a multiplexing end is in its range.
use Rattle.std.specs.Prelude.{nat_lt, not, if◌then◌else◌, Bool, true, false, IsUtf8}
use Rattle.std.proofs.Common.{◌≡◌, ℕ, ◌+◌, ◌<◌, ◌≤◌, List, [], ◌∷◌, length, drop, refl, sym, ◌∙◌, ap, arith, length-drop, Option, Some, None}
use Rattle.std.proofs.lemmas.Bool.{and_parts, lt-ltb, ltb-false}
use Rattle.std.proofs.lemmas.Str.{is_utf8-from_IsUtf8}
use Rattle.wire_base.specs.declared.limits.TheConstants.{COUNT_LIMIT, PLAIN_ID_LIMIT}
use Rattle.wire_base.specs.declared.frame.Version.{Version}
use Rattle.wire_base.specs.declared.frame.Version.TheVariants as version
use Rattle.wire_base.specs.declared.refusal.Refusal.{Refusal}
use Rattle.wire_base.specs.declared.refusal.Refusal.TheVariants as refusal
use Rattle.frame_text.specs.Frames.{fits_id}
use Rattle.mux_items.specs.declared.call.Call.{Call}
use Rattle.mux_items.specs.declared.call.Call.TheVariants as call
use Rattle.mux_items.specs.declared.channel.ChannelKey.{ChannelKey}
use Rattle.mux_items.specs.declared.party.Party.{Party}
use Rattle.mux_items.specs.declared.party.Party.TheVariants.{Odd, Even, Neither}
use Rattle.mux_items.specs.Bodies.{Content, ContentWritingCompleted, has_parity}
use Rattle.mux_items.specs.Calls.{call_refusal, item_of_call, unless_refused, called}
use Rattle.mux_items.specs.Items.{Item, Got, ended, party_of}
use Rattle.mux_items.specs.Kept.{is_known, is_kept, own_id, own_offers, next_key}
use Rattle.mux_items.specs.Limits.{longest_name, most_offers}
use Rattle.mux_items.specs.Lists.{taken, handed, unread, is_dropped, is_completed, has_completed}
use Rattle.mux_items.specs.Parties.{party_by}
use Rattle.mux_items.specs.Refusals.{is_ready, offer_refusal}
use Rattle.mux_items.proofs.Permits.{if_none, unless_none, offer_permits, accept_permits, write_permits, read_permits, complete_permits, terminate_permits}
use Rattle.mux_items.proofs.Taking.{taken_grows}
use Rattle.mux_run.specs.Run.{SideTerms}
use Rattle.rpc_end.specs.declared.terms.Terms.{Terms}
use Rattle.rpc_end.specs.Texts.{message_texts}
use Rattle.rpc_items.specs.Items as rpc
use Rattle.rpc_items.specs.Saying.{said}
use Rattle.rpc_items.specs.declared.messages.Message.{Message}
use Rattle.endpoint_items.specs.Connections.{is_attached, items_of}
use Rattle.endpoint_items.specs.Following.{followed, follow_ups, attach_calls, read_all, complete_once, write_said}
use Rattle.endpoint_items.specs.Items.{EndItem, Mux, Attach, DidCall, GotMessage, RefusedMessage, terms_of}
use Rattle.endpoint_items.specs.Layers.{mux_of, rpc_of}
use Rattle.duo_world.specs.Ranges.{IsKeyInRange, IsNumberInRange, IsInRange, AreInRange}
use Rattle.duo_world.proofs.Sides.{own_parity}
use Rattle.duo_world.proofs.Frames.{ready_party, known_in_range}

-- a channel that a call finds kept is known
kept_in_range : (w : SideTerms) (c : ChannelKey) (items : List Item) → AreInRange w items → is_kept w.version c items ≡ true → IsKeyInRange w c
kept_in_range w c items s e = known_in_range w c items s (and_parts (is_known c items) _ e).0

-- an accepted offer has a short name
name_short : (v : Version) (name : List ℕ) (size : ℕ) (items : List Item) → offer_refusal v name size items ≡ None → length name ≤ longest_name
name_short v name size items e =
    let ready = if_none (not (is_ready v items)) refusal.NotReady _ (unless_none (ended items) _ e).1 in
    ltb-false longest_name (length name) (if_none (nat_lt longest_name (length name)) refusal.NameTooLong _ ready.1).0

-- the next own offer draws an id of the own party, below 2^32

id_small : (party : Party) (k : ℕ) → k + 1 ≤ most_offers → (0 < own_id party (k + 1)) × (own_id party (k + 1) < PLAIN_ID_LIMIT)
id_small Odd k h = (omega arith, omega arith)
id_small Even k h = (omega arith, omega arith)
id_small Neither k h = (omega arith, omega arith)

id_fits : (v : Version) (id : ℕ) → 0 < id → id < PLAIN_ID_LIMIT → fits_id v id ≡ true
id_fits version.One id a b = rw (lt-ltb 0 id a, lt-ltb id PLAIN_ID_LIMIT b) refl
id_fits version.Two id a b = rw (lt-ltb 0 id a, lt-ltb id COUNT_LIMIT (omega arith)) refl
id_fits version.Three id a b = rw (lt-ltb 0 id a, lt-ltb id COUNT_LIMIT (omega arith)) refl

next_in_range : (w : SideTerms) (items : List Item) → AreInRange w items → is_ready w.version items ≡ true → own_offers items + 1 ≤ most_offers → IsKeyInRange w (next_key items)
next_in_range w items s ready more =
    let k = own_offers items in
    let small = id_small (party_of items) k more in
    record {
      id = id_fits w.version (own_id (party_of items) (k + 1)) small.0 small.1;
      source = λ two.
          let party : party_of items ≡ party_by w.own w.peer = (ready_party w items s ready two).party_is in
          sym (ap (λ party. has_parity (party_by w.own w.peer) (own_id party (k + 1))) party ∙ own_parity w.own w.peer k);
    }

-- what the types of a call's parts say
abbrev pub HasParts : Call → Type 0
HasParts (call.Offer name size) = IsUtf8 name × IsNumberInRange size
HasParts (call.Accept c size) = IsNumberInRange size
HasParts (call.Write c bytes) = Unit {0}
HasParts (call.Read c max) = IsNumberInRange max
HasParts (call.Complete c) = Unit {0}
HasParts (call.Terminate c) = Unit {0}

-- the frames of an accepted call can be written
pub call_in_range : (w : SideTerms) (c : Call) (items : List Item) → HasParts c → AreInRange w items → call_refusal w.version c items ≡ None → IsInRange w (item_of_call c items) items
call_in_range w (call.Offer name size) items parts s e =
    let o = offer_permits w.version name size items e in
    (next_in_range w items s o.ready o.more, record { utf8 = is_utf8-from_IsUtf8 name parts.0; short = name_short w.version name size items e }, parts.1)
call_in_range w (call.Accept c size) items small s e = (kept_in_range w c items s (accept_permits w.version c size items e).kept, small)
call_in_range w (call.Write c bytes) items parts s e = kept_in_range w c items s (write_permits w.version c bytes items e).call.kept
call_in_range w (call.Read c max) items small s e = (kept_in_range w c items s (read_permits w.version c items e), omega arith)
call_in_range w (call.Complete c) items parts s e = kept_in_range w c items s (complete_permits w.version c items e).call.kept
call_in_range w (call.Terminate c) items parts s e = kept_in_range w c items s (terminate_permits w.version c items e).kept

-- calls that are made one after the other

abbrev AreParts : List Call → Type 0
AreParts [] = Unit {0}
AreParts (c ∷ calls) = HasParts c × AreParts calls

called_in_range : (w : SideTerms) (c : Call) (m : List Item) → HasParts c → AreInRange w m → AreInRange w (called w.version c m)
called_in_range w c m parts s = by (call_refusal w.version c m) refl
  where
    by : (r : Option Refusal) → call_refusal w.version c m ≡ r → AreInRange w (unless_refused r (item_of_call c m) m)
    by (Some r) e = s
    by None e = (call_in_range w c m parts s e, s)

followed_in_range : (w : SideTerms) (calls : List Call) (m : List Item) → AreParts calls → AreInRange w m → AreInRange w (followed w.version calls m)
followed_in_range w [] m parts s = s
followed_in_range w (c ∷ calls) m parts s = followed_in_range w calls (called w.version c m) parts.1 (called_in_range w c m parts.0 s)

called_taken : (v : Version) (c : ChannelKey) (x : Call) (m : List Item) → length (taken v c m) ≤ length (taken v c (called v x m))
called_taken v c x m = by (call_refusal v x m)
  where
    by : (r : Option Refusal) → length (taken v c m) ≤ length (taken v c (unless_refused r (item_of_call x m) m))
    by (Some r) = omega arith
    by None = taken_grows v c (item_of_call x m) m

followed_taken : (v : Version) (c : ChannelKey) (calls : List Call) (m : List Item) → length (taken v c m) ≤ length (taken v c (followed v calls m))
followed_taken v c [] m = omega arith
followed_taken v c (x ∷ calls) m = omega (arith, called_taken v c x m, followed_taken v c calls (called v x m))

-- what is unread was taken
unread_taken : (v : Version) (c : ChannelKey) (m : List Item) → length (unread v c m) ≤ length (taken v c m)
unread_taken v c m = by (is_dropped v c m)
  where
    by : (b : Bool) → length (if b then [] else drop (handed v c m) (taken v c m)) ≤ length (taken v c m)
    by true = omega arith
    by false = omega (arith, length-drop (handed v c m) (taken v c m))

-- the calls that follow

complete_parts : (c : ChannelKey) (m : List Item) → AreParts (complete_once c m)
complete_parts c m = elim (has_completed c m) as (λ b. AreParts (if b then [] else call.Complete c ∷ [])) [ true ↦ tt | false ↦ (tt, tt) ]

write_parts : (c : ChannelKey) (terms : Terms) (messages : List Message) (m : List Item) → AreParts (write_said c terms messages m)
write_parts c terms [] m = tt
write_parts c terms (message ∷ messages) m =
    elim (has_completed c m) as (λ b. AreParts (if b then [] else call.Write c (message_texts terms (message ∷ messages)) ∷ [])) [ true ↦ tt | false ↦ (tt, tt) ]

follow_parts : (v : Version) (attached : ChannelKey → Bool) (item : Item) (m : List Item) → ((c : ChannelKey) → IsNumberInRange (length (unread v c m))) → AreParts (follow_ups v attached item m)
follow_parts v attached (Got place c (Content bytes)) m small = elim (attached c) as (λ b. AreParts (if b then read_all v c m ∷ [] else [])) [ true ↦ (small c, tt) | false ↦ tt ]
follow_parts v attached (Got place c ContentWritingCompleted) m small = elim (attached c) as (λ b. AreParts (if b then complete_once c m else [])) [ true ↦ complete_parts c m | false ↦ tt ]
follow_parts v attached item m small = tt

attach_parts : (v : Version) (c : ChannelKey) (m : List Item) → IsNumberInRange (length (unread v c m)) → AreParts (attach_calls v c m)
attach_parts v c m small = (small, elim (is_completed v c m) as (λ b. AreParts (if b then complete_once c m else [])) [ true ↦ complete_parts c m | false ↦ tt ])

-- the item that an end adds to its multiplexing end itself
abbrev pub OwnInRange : SideTerms → EndItem → List Item → Type 0
OwnInRange w (Mux item) m = IsInRange w item m
OwnInRange w item m = Unit {0}

-- so is what an item adds, where few bytes were taken
pub mux_in_range : (w : SideTerms) (item : EndItem) (items : List EndItem) → OwnInRange w item (mux_of w.version items) → ((c : ChannelKey) → length (taken w.version c (mux_of w.version (item ∷ items))) < COUNT_LIMIT) → AreInRange w (mux_of w.version items)
    → AreInRange w (mux_of w.version (item ∷ items))
mux_in_range w (Mux item) items own few s =
    let v = w.version in
    let m = item ∷ mux_of v items in
    let calls = follow_ups v (λ c. is_attached (rpc_of v c items)) item m in
    followed_in_range w calls m (follow_parts v (λ c. is_attached (rpc_of v c items)) item m (λ c. omega (arith, unread_taken v c m, followed_taken v c calls m, few c))) (own, s)
mux_in_range w (Attach c terms) items own few s =
    let v = w.version in
    let m = mux_of v items in
    followed_in_range w (attach_calls v c m) m (attach_parts v c m (omega (arith, unread_taken v c m, followed_taken v c (attach_calls v c m) m, few c))) s
mux_in_range w (DidCall c made) items own few s =
    let m = mux_of w.version items in
    let messages = said (rpc.Did made) (items_of (rpc_of w.version c items)) in
    followed_in_range w (write_said c (terms_of c items) messages m) m (write_parts c (terms_of c items) messages m) s
mux_in_range w (GotMessage c place size message) items own few s =
    let m = mux_of w.version items in
    let messages = said (rpc.Got place message) (items_of (rpc_of w.version c items)) in
    followed_in_range w (write_said c (terms_of c items) messages m) m (write_parts c (terms_of c items) messages m) s
mux_in_range w (RefusedMessage c place reason) items own few s = followed_in_range w (call.Terminate c ∷ []) (mux_of w.version items) (tt, tt) s

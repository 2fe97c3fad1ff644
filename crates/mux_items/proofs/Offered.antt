-- Nothing happens on a channel before it is offered, and each offer draws a new channel.
use Rattle.std.specs.Prelude.{ℕ, ◌+◌, ◌≤◌, List, [], ◌∷◌, Bool, true, false, not, ◌||◌, if◌then◌else◌, Option, Some, None}
use Rattle.std.specs.List.{list_any}
use Rattle.std.proofs.Common.{◌≡◌, inl, inr, refl, sym, ◌∙◌, ap, subst, arith}
use Rattle.std.proofs.lemmas.Bool.{true≢false, false≢true, and_parts, or_cases, false_from_ne_true, true_from_ne_false}
use Rattle.wire_base.specs.declared.frame.Version.{Version}
use Rattle.wire_base.specs.declared.reason.Reason.TheVariants as reason
use Rattle.wire_base.specs.declared.state.Cause.{Cause}
use Rattle.mux_items.specs.declared.channel.ChannelKey.{ChannelKey}
use Rattle.mux_items.specs.declared.party.Party.{Party}
use Rattle.mux_items.specs.declared.party.Party.TheVariants.{Odd, Even, Neither}
use Rattle.mux_items.specs.Bodies.{FrameBody, Offer, same_key}
use Rattle.mux_items.specs.Items.{Item, Hello, DidOffer, DidAccept, DidWrite, DidRead, DidComplete, DidTerminate, Got, Rejected, End, names, party_of, party_or_neither}
use Rattle.mux_items.specs.Lists.{written, is_offered, has_completed, has_terminated, is_terminated_by_peer, is_rejected, is_accepted, is_closed, completion_in, completion_emitted, is_finished, termination_emitted, unread}
use Rattle.mux_items.specs.Kept.{keys, is_known, has_bytes, is_kept, own_offers, own_id, next_key}
use Rattle.mux_items.specs.Refusals.{frame_refusal}
use Rattle.mux_items.specs.Applying.{Allowed, lacks_room}
use Rattle.mux_items.proofs.Keys.{same_key_refl, same_key_true, key_cases}
use Rattle.mux_items.proofs.Emission.{if_or, if_false, before_same}
use Rattle.mux_items.proofs.Permits.{if_none, accept_permits, write_permits, read_permits, complete_permits, terminate_permits, later_permits}
use Rattle.mux_items.proofs.Applied.{allowed_tail}
use Rattle.mux_items.proofs.Taking.{finished_in}
use Rattle.mux_items.proofs.Apart.{skipped, written-restricted, has_completed-restricted, is_accepted-restricted, completion_emitted-restricted, termination_emitted-restricted}

-- a known channel was offered

pub offered_more : (c : ChannelKey) (item : Item) (items : List Item) → is_offered c items ≡ true → is_offered c (item ∷ items) ≡ true
offered_more c (DidOffer key name size) items e = if_or (same_key key c) (is_offered c items) e
offered_more c (Got place key (Offer name size)) items e = if_or (same_key key c) (is_offered c items) e
offered_more c (Rejected place key body) items e = if_or (same_key key c) (is_offered c items) e
offered_more c item items e = e

known_next : (c key : ChannelKey) (ks : List ChannelKey) (offered : Bool) → (list_any (same_key c) ks ≡ true → offered ≡ true) → list_any (same_key c) (key ∷ ks) ≡ true → (if same_key key c then true else offered) ≡ true
known_next c key ks offered h e = elim (or_cases (same_key c key) (list_any (same_key c) ks) e) [
  | inl same ↦ subst (λ k. (if same_key k c then true else offered) ≡ true) (same_key_true c key same) (rw (same_key_refl c) refl)
  | inr older ↦ if_or (same_key key c) offered (h older)
]

pub known_offered : (c : ChannelKey) (items : List Item) → is_known c items ≡ true → is_offered c items ≡ true
known_offered c [] e = e
known_offered c (DidOffer key name size ∷ items) e = known_next c key (keys items) (is_offered c items) (known_offered c items) e
known_offered c (Got place key (Offer name size) ∷ items) e = known_next c key (keys items) (is_offered c items) (known_offered c items) e
known_offered c (item ∷ items) e = offered_more c item items (known_offered c items e)

pub kept_offered : (v : Version) (c : ChannelKey) (items : List Item) → is_kept v c items ≡ true → is_offered c items ≡ true
kept_offered v c items e = known_offered c items (and_parts (is_known c items) (not (is_closed v c items) || has_bytes (unread v c items)) e).0

-- a peer's offer that isn't refused is the first on its channel

pub heard_first : (v : Version) (key : ChannelKey) (name : List ℕ) (size : Option ℕ) (items : List Item) → frame_refusal v key (Offer name size) items ≡ None → (key.own ≡ false) × (is_offered key items ≡ false)
heard_first v key name size items e =
    let parts = if_none key.own reason.WrongSide (if is_offered key items then Some reason.IdInUse else None) e in
    (parts.0, (if_none (is_offered key items) reason.IdInUse None parts.1).0)

pub rejected_first : (v : Version) (key : ChannelKey) (body : FrameBody) (items : List Item) → frame_refusal v key body items ≡ None → lacks_room v body items ≡ true → (key.own ≡ false) × (is_offered key items ≡ false)
rejected_first v key (Offer name size) items e room = heard_first v key name size items e
rejected_first v key body items e room = absurd (false≢true room)

pub peer_key : (c key : ChannelKey) → c.own ≡ true → key.own ≡ false → same_key key c ≡ false
peer_key c key own peer = elim (key_cases key c) [
  | inl same ↦ absurd (true≢false (sym own ∙ (ap (λ (k : ChannelKey). k.own) (sym same) ∙ peer)))
  | inr differ ↦ differ
]

pub offered_else : (same x : Bool) → same ≡ false → (if same then true else x) ≡ true → x ≡ true
offered_else true x e f = absurd (true≢false e)
offered_else false x e f = f

-- the ids of own offers are at most the one that was drawn last

id_more : (party : Party) (n : ℕ) → own_id party n + 1 ≤ own_id party (n + 1)
id_more Odd n = omega arith
id_more Even n = omega arith
id_more Neither n = omega arith

neither_least : (party : Party) (n : ℕ) → own_id Neither n ≤ own_id party n
neither_least Odd n = omega arith
neither_least Even n = omega arith
neither_least Neither n = omega arith

pub own_bound : (v : Version) (c : ChannelKey) (items : List Item) → Allowed v items → is_offered c items ≡ true → c.own ≡ true → c.id ≤ own_id (party_of items) (own_offers items)
own_bound v c [] ok e own = absurd (false≢true e)
own_bound v c (Hello party ∷ items) ok e own = omega (arith, own_bound v c items ok.1 e own, ap (λ g. own_id (party_or_neither g) (own_offers items)) ok.0.once, neither_least party (own_offers items))
own_bound v c (DidOffer key name size ∷ items) ok e own = elim (key_cases key c) [
  | inl same ↦ omega (arith, ap (λ (k : ChannelKey). k.id) (sym same ∙ ok.1))
  | inr differ ↦ omega (arith, own_bound v c items ok.2 (offered_else (same_key key c) (is_offered c items) differ e) own, id_more (party_of items) (own_offers items))
]
own_bound v c (Got place key (Offer name size) ∷ items) ok e own =
    own_bound v c items ok.2 (offered_else (same_key key c) (is_offered c items) (peer_key c key own (heard_first v key name size items ok.0.unrefused).0) e) own
own_bound v c (Rejected place key body ∷ items) ok e own =
    own_bound v c items ok.2 (offered_else (same_key key c) (is_offered c items) (peer_key c key own (rejected_first v key body items ok.0.unrefused ok.1).0) e) own
own_bound v c (item ∷ items) ok e own = own_bound v c items (allowed_tail v item items ok) e own

-- so an own offer draws a channel that wasn't offered
pub next_key_new : (v : Version) (items : List Item) → Allowed v items → is_offered (next_key items) items ≡ false
next_key_new v items ok = false_from_ne_true (is_offered (next_key items) items) (λ e. omega (arith, own_bound v (next_key items) items ok e refl, id_more (party_of items) (own_offers items)))

pub offered_first : (v : Version) (c : ChannelKey) (name : List ℕ) (size : ℕ) (items : List Item) → Allowed v (DidOffer c name size ∷ items) → (c.own ≡ true) × (is_offered c items ≡ false)
offered_first v c name size items ok = (ap (λ (k : ChannelKey). k.own) ok.1, ap (λ k. is_offered k items) ok.1 ∙ next_key_new v items ok.2)

-- an item on a channel that wasn't offered

unless_offered : (key c : ChannelKey) (items : List Item) → is_offered key items ≡ true → is_offered c items ≡ false → same_key key c ≡ false
unless_offered key c items e f = elim (key_cases key c) [
  | inl same ↦ absurd (true≢false (sym e ∙ (ap (λ k. is_offered k items) same ∙ f)))
  | inr differ ↦ differ
]

abbrev is_common : Item → Bool
is_common (Hello party) = true
is_common (End cause) = true
is_common item = false

elsewhere : (v : Version) (c : ChannelKey) (item : Item) (items : List Item) → Allowed v (item ∷ items) → is_common item ≡ false → is_offered c (item ∷ items) ≡ false → (names c item ≡ false) × (is_offered c items ≡ false)
elsewhere v c (Hello party) items ok common e = absurd (true≢false common)
elsewhere v c (End cause) items ok common e = absurd (true≢false common)
elsewhere v c (DidOffer key name size) items ok common e = if_false (same_key key c) (is_offered c items) e
elsewhere v c (DidAccept key size) items ok common e = (unless_offered key c items (kept_offered v key items (accept_permits v key size items ok.0).kept) e, e)
elsewhere v c (DidWrite key bytes) items ok common e = (unless_offered key c items (kept_offered v key items (write_permits v key bytes items ok.0).call.kept) e, e)
elsewhere v c (DidRead key max) items ok common e = (unless_offered key c items (kept_offered v key items (read_permits v key items ok.0)) e, e)
elsewhere v c (DidComplete key) items ok common e = (unless_offered key c items (kept_offered v key items (complete_permits v key items ok.0).call.kept) e, e)
elsewhere v c (DidTerminate key) items ok common e = (unless_offered key c items (kept_offered v key items (terminate_permits v key items ok.0).kept) e, e)
elsewhere v c (Got place key (Offer name size)) items ok common e = if_false (same_key key c) (is_offered c items) e
elsewhere v c (Got place key body) items ok common e = (unless_offered key c items (later_permits v key body items ok.0.unrefused).0 e, e)
elsewhere v c (Rejected place key body) items ok common e = if_false (same_key key c) (is_offered c items) e

-- what other items leave unchanged, and the handshake and the end leave as at the start, is as at the start
pub never : {A : Type 0} (c : ChannelKey) (f : List Item → A) → ((item : Item) (items : List Item) → names c item ≡ false → f (item ∷ items) ≡ f items)
    → ((party : Party) (items : List Item) → f items ≡ f [] → f (Hello party ∷ items) ≡ f []) → ((cause : Cause) (items : List Item) → f items ≡ f [] → f (End cause ∷ items) ≡ f [])
    → (v : Version) (items : List Item) → Allowed v items → is_offered c items ≡ false → f items ≡ f []
never c f skip hello over v [] ok e = refl
never c f skip hello over v (Hello party ∷ items) ok e = hello party items (never c f skip hello over v items ok.1 e)
never c f skip hello over v (End cause ∷ items) ok e = over cause items (never c f skip hello over v items ok.1 e)
never c f skip hello over v (item ∷ items) ok e =
    let on = elsewhere v c item items ok refl e in
    skip item items on.0 ∙ never c f skip hello over v items (allowed_tail v item items ok) on.1

-- an item that completes nothing
pub completion_same : (v : Version) (c : ChannelKey) (item : Item) (items : List Item) → completion_in v c (item ∷ items) ≡ completion_in v c items → completion_emitted v c (item ∷ items) ≡ completion_emitted v c items
completion_same v c item items e = before_same c (completion_in v c) item items e

pub finished_same : (v : Version) (c : ChannelKey) (item : Item) (items : List Item) → finished_in v c (item ∷ items) ≡ finished_in v c items → is_finished v c (item ∷ items) ≡ is_finished v c items
finished_same v c item items e = before_same c (finished_in v c) item items e

pub never_accepted : (v : Version) (c : ChannelKey) (items : List Item) → Allowed v items → is_offered c items ≡ false → is_accepted v c items ≡ false
never_accepted v c items ok e = never c (is_accepted v c) (skipped c (is_accepted v c) (is_accepted-restricted v c)) (λ party items e. e) (λ cause items e. e) v items ok e

pub accepted_offered : (v : Version) (c : ChannelKey) (items : List Item) → Allowed v items → is_accepted v c items ≡ true → is_offered c items ≡ true
accepted_offered v c items ok e = true_from_ne_false (is_offered c items) (λ o. true≢false (sym e ∙ never_accepted v c items ok o))

pub never_written : (v : Version) (c : ChannelKey) (items : List Item) → Allowed v items → is_offered c items ≡ false → written c items ≡ []
never_written v c items ok e = never c (written c) (skipped c (written c) (written-restricted c)) (λ party items e. e) (λ cause items e. e) v items ok e

pub never_completed : (v : Version) (c : ChannelKey) (items : List Item) → Allowed v items → is_offered c items ≡ false → has_completed c items ≡ false
never_completed v c items ok e = never c (has_completed c) (skipped c (has_completed c) (has_completed-restricted c)) (λ party items e. e) (λ cause items e. e) v items ok e

pub never_done : (v : Version) (c : ChannelKey) (items : List Item) → Allowed v items → is_offered c items ≡ false → completion_emitted v c items ≡ false
never_done v c items ok e = never c (completion_emitted v c) (skipped c (completion_emitted v c) (completion_emitted-restricted v c)) (λ party items e. completion_same v c (Hello party) items refl ∙ e) (λ cause items e. e) v items ok e

pub never_over : (v : Version) (c : ChannelKey) (items : List Item) → Allowed v items → is_offered c items ≡ false → termination_emitted v c items ≡ false
never_over v c items ok e =
    never c (termination_emitted v c) (skipped c (termination_emitted v c) (termination_emitted-restricted v c))
    (λ party items e. ap (λ b. has_terminated c items || is_terminated_by_peer c items || is_rejected c items || b) (finished_same v c (Hello party) items refl) ∙ e) (λ cause items e. e) v items ok e

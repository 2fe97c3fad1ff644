-- One more item makes of what an end keeps what it makes of it.
use Rattle.std.specs.Prelude.{ℕ, List, [], ◌∷◌, map, Bool, true, false, not, ◌&&◌, ◌||◌, if◌then◌else◌, Some, None}
use Rattle.std.specs.List.{list_any}
use Rattle.std.proofs.Common.{◌≡◌, inl, inr, refl, sym, ◌∙◌, ap, subst}
use Rattle.std.proofs.lemmas.Bool.{cases_Bool, true≢false, or_left, or_right, false_from_ne_true}
use Rattle.wire_base.specs.declared.frame.Version.{Version}
use Rattle.wire_base.specs.declared.state.Cause.{Cause}
use Rattle.mux_items.specs.declared.party.Party.{Party}
use Rattle.mux_items.specs.declared.channel.ChannelKey.{ChannelKey}
use Rattle.mux_items.specs.declared.channel.Phase.TheVariants as phase
use Rattle.mux_items.specs.Bodies.{Offer, OfferAccepted, Content, ContentWritingCompleted, ChannelTerminated, ContentProcessed, same_key, window_of}
use Rattle.mux_items.specs.Items.{Item, Hello, DidOffer, DidAccept, DidWrite, DidRead, DidComplete, DidTerminate, Got, Rejected, End, names, ended, greeting}
use Rattle.mux_items.specs.Lists.{is_offered}
use Rattle.mux_items.specs.Kept.{keys, is_known, has_bytes, is_kept}
use Rattle.mux_items.specs.Views.{precedes, insert_key, known_keys}
use Rattle.mux_items.specs.Applying.{Allowed}
use Rattle.mux_items.proofs.Applied.{allowed_tail}
use Rattle.mux_items.proofs.Keys.{same_key_refl, same_key_true}
use Rattle.mux_items.proofs.Offered.{heard_first, known_offered, offered_first, rejected_first}
use Rattle.mux_items.proofs.Permits.{accept_permits, complete_permits, read_permits, terminate_permits, write_permits}
use Rattle.mux_state.specs.State.{ChannelState, channel_at, state_of}
use Rattle.mux_state.specs.Next.{offered_state, heard_state, closed_state, ended_state, settled, next_state, next_on}
use Rattle.mux_state.specs.Tests.{tally_in}
use Rattle.mux_state.specs.Book.{Kept, Gone, standing_of, entry_of, rejected_keys, book_of, moved, changed, changed_entry, change_at, insert_entry, entry_at, AreApart, next_entries, next_party, next_cause, next_rejected, next_book}
use Rattle.mux_state.proofs.Step.{settled_closed}
use Rattle.mux_state.proofs.Known.{clash}
use Rattle.mux_state.proofs.Ignored.{settled_sent}
use Rattle.mux_state.proofs.Law.{channel_step, channel_offered, channel_heard}
use Rattle.mux_state.proofs.Refusing.{kept_by_state}
use Rattle.mux_state.proofs.Orders.{any_in_order, unknown_before, known_apart}
use Rattle.mux_state.proofs.Books.{known_unrejected, IsGone, gone_is}

moved_gone : (s : ChannelState) → s.termination_sent ≡ true → s.peer_terminated ≡ true → s.unread ≡ [] → moved s ≡ Gone (tally_in s)
moved_gone s e f g = λ i. if (not (e i && f i) || has_bytes (g i)) then Kept s else Gone (tally_in s)

same_tally : (s : ChannelState) → s.termination_sent ≡ true → s.peer_terminated ≡ true → tally_in (record (closed_state s) { termination_sent = true }) ≡ tally_in s
same_tally s e f = λ i. record {
  phase = if sym e i then (if sym f i then phase.Closed else phase.Closing) else if s.accepted then phase.Live else if s.own then phase.Waiting else phase.Heard;
  written = s.written;
  emitted = s.emitted;
  taken = s.taken;
  handed = s.handed;
}

nothing_read : (accepted : Bool) (bytes : List ℕ) → bytes ≡ [] → (if accepted then bytes else []) ≡ []
nothing_read true bytes e = e
nothing_read false bytes e = refl

closed_gone : (s : ChannelState) → s.termination_sent ≡ true → s.peer_terminated ≡ true → s.unread ≡ [] → moved (settled (closed_state s)) ≡ Gone (tally_in s)
closed_gone s e f g =
    ap moved (settled_closed s)
    ∙ (moved_gone (record (closed_state s) { termination_sent = true }) refl refl (nothing_read s.accepted s.unread g)
    ∙ ap Gone (same_tally s e f))

sent_gone : (s next : ChannelState) → s.termination_sent ≡ true → s.peer_terminated ≡ true → s.unread ≡ [] → moved (settled (if s.termination_sent then s else next)) ≡ Gone (tally_in s)
sent_gone s next e f g = ap moved (settled_sent s next e) ∙ moved_gone s e f g

by_key : (f : ChannelKey → Bool) (c key : ChannelKey) (b : Bool) → same_key key c ≡ true → f key ≡ b → f c ≡ b
by_key f c key b same e = subst (λ k. f k ≡ b) (same_key_true key c same) e

-- a channel that isn't kept any more stays as it was
gone_named : (v : Version) (c : ChannelKey) (item : Item) (items : List Item) → names c item ≡ true → Allowed v (item ∷ items) → is_known c items ≡ true → is_kept v c items ≡ false → IsGone v c items → moved (next_state item (channel_at v c items)) ≡ Gone (tally_in (channel_at v c items))
gone_named v c (Hello party) items named ok known gone g = moved_gone (channel_at v c items) g.sent g.peer g.read
gone_named v c (DidOffer key name size) items named ok known gone g = clash (is_offered c items) (known_offered c items known) (by_key (λ k. is_offered k items) c key false named (offered_first v key name size items ok).1)
gone_named v c (DidAccept key size) items named ok known gone g = clash (is_kept v c items) (by_key (λ k. is_kept v k items) c key true named (accept_permits v key size items ok.0).kept) gone
gone_named v c (DidWrite key bytes) items named ok known gone g = clash (is_kept v c items) (by_key (λ k. is_kept v k items) c key true named (write_permits v key bytes items ok.0).call.kept) gone
gone_named v c (DidRead key max) items named ok known gone g = clash (is_kept v c items) (by_key (λ k. is_kept v k items) c key true named (read_permits v key items ok.0)) gone
gone_named v c (DidComplete key) items named ok known gone g = clash (is_kept v c items) (by_key (λ k. is_kept v k items) c key true named (complete_permits v key items ok.0).call.kept) gone
gone_named v c (DidTerminate key) items named ok known gone g = clash (is_kept v c items) (by_key (λ k. is_kept v k items) c key true named (terminate_permits v key items ok.0).kept) gone
gone_named v c (Got place key (Offer name size)) items named ok known gone g = clash (is_offered c items) (known_offered c items known) (by_key (λ k. is_offered k items) c key false named (heard_first v key name size items ok.0.unrefused).1)
gone_named v c (Got place key (OfferAccepted size)) items named ok known gone g = sent_gone (channel_at v c items) _ g.sent g.peer g.read
gone_named v c (Got place key (Content bytes)) items named ok known gone g = sent_gone (channel_at v c items) _ g.sent g.peer g.read
gone_named v c (Got place key ContentWritingCompleted) items named ok known gone g = sent_gone (channel_at v c items) _ g.sent g.peer g.read
gone_named v c (Got place key ChannelTerminated) items named ok known gone g = closed_gone (channel_at v c items) g.sent g.peer g.read
gone_named v c (Got place key (ContentProcessed count)) items named ok known gone g = sent_gone (channel_at v c items) _ g.sent g.peer g.read
gone_named v c (Rejected place key body) items named ok known gone g = clash (is_offered c items) (known_offered c items known) (by_key (λ k. is_offered k items) c key false named (rejected_first v key body items ok.0.unrefused ok.1).1)
gone_named v c (End cause) items named ok known gone g = moved_gone (ended_state (channel_at v c items)) g.sent g.peer g.read

pub known_more : (c : ChannelKey) (item : Item) (items : List Item) → is_known c items ≡ true → is_known c (item ∷ items) ≡ true
known_more c (DidOffer key name size) items e = or_right (same_key c key) (is_known c items) e
known_more c (Got place key (Offer name size)) items e = or_right (same_key c key) (is_known c items) e
known_more c item items e = e

standing_moved : (v : Version) (c : ChannelKey) (items : List Item) → is_known c items ≡ true → standing_of v c items ≡ moved (channel_at v c items)
standing_moved v c items known = ap (λ b. if b then Kept (channel_at v c items) else Gone (tally_in (channel_at v c items))) (kept_by_state v c items known)

standing_after : (v : Version) (c : ChannelKey) (item : Item) (items : List Item) → Allowed v (item ∷ items) → is_known c items ≡ true → standing_of v c (item ∷ items) ≡ moved (next_on c item (channel_at v c items))
standing_after v c item items ok known =
    let later = known_more c item items known in
    standing_moved v c (item ∷ items) later ∙ ap moved (channel_step v c item items ok (known_unrejected v c (item ∷ items) ok later))

-- where a known channel stands after an item that names it
standing_named : (v : Version) (c : ChannelKey) (item : Item) (items : List Item) → names c item ≡ true → Allowed v (item ∷ items) → is_known c items ≡ true → standing_of v c (item ∷ items) ≡ changed (next_state item) (standing_of v c items)
standing_named v c item items named ok known =
    let now : standing_of v c (item ∷ items) ≡ moved (next_state item (channel_at v c items)) =
    standing_after v c item items ok known ∙ ap (λ b. moved (if b then next_state item (channel_at v c items) else channel_at v c items)) named in
    elim (cases_Bool (is_kept v c items)) [
      | inl kept ↦ now ∙ sym (ap (λ b. changed (next_state item) (if b then Kept (channel_at v c items) else Gone (tally_in (channel_at v c items)))) kept)
      | inr gone ↦ now ∙ (gone_named v c item items named ok known gone (gone_is v c items known gone) ∙ sym (ap (λ b. changed (next_state item) (if b then Kept (channel_at v c items) else Gone (tally_in (channel_at v c items)))) gone))
    ]

-- and after one that doesn't
standing_unnamed : (v : Version) (c : ChannelKey) (item : Item) (items : List Item) → names c item ≡ false → Allowed v (item ∷ items) → is_known c items ≡ true → standing_of v c (item ∷ items) ≡ standing_of v c items
standing_unnamed v c item items other ok known =
    standing_after v c item items ok known
    ∙ (ap (λ b. moved (if b then next_state item (channel_at v c items) else channel_at v c items)) other
    ∙ sym (standing_moved v c items known))

map_same : {A : Type 0} (f g : ChannelKey → A) (cs : List ChannelKey) → ((c : ChannelKey) → list_any (same_key c) cs ≡ true → f c ≡ g c) → map f cs ≡ map g cs
map_same f g [] same = refl
map_same f g (c ∷ cs) same = λ i. same c (or_left (same_key c c) (list_any (same_key c) cs) (same_key_refl c)) i ∷ map_same f g cs (λ d e. same d (or_right (same_key d c) (list_any (same_key d) cs) e)) i

known_in_order : (c : ChannelKey) (items : List Item) → list_any (same_key c) (known_keys items) ≡ true → is_known c items ≡ true
known_in_order c items e = sym (any_in_order (same_key c) (keys items)) ∙ e

-- an item that names none of these channels
entries_same : (v : Version) (item : Item) (items : List Item) → Allowed v (item ∷ items) → ((c : ChannelKey) → is_known c items ≡ true → names c item ≡ false) → map (entry_of v (item ∷ items)) (known_keys items) ≡ map (entry_of v items) (known_keys items)
entries_same v item items ok other =
    map_same (entry_of v (item ∷ items)) (entry_of v items) (known_keys items)
    (λ c e. let known = known_in_order c items e in λ i. record { key = c; standing = standing_unnamed v c item items (other c known) ok known i })

-- an item on one channel, where each stands once
change_in : (v : Version) (key : ChannelKey) (item : Item) (items : List Item) → Allowed v (item ∷ items) → ((c : ChannelKey) → names c item ≡ same_key key c) → (cs : List ChannelKey) → AreApart cs → ((c : ChannelKey) → list_any (same_key c) cs ≡ true → is_known c items ≡ true)
    → map (entry_of v (item ∷ items)) cs ≡ change_at key (next_state item) (map (entry_of v items) cs)
change_in v key item items ok on [] apart known = refl
change_in v key item items ok on (c ∷ cs) apart known =
    let here = known c (or_left (same_key c c) (list_any (same_key c) cs) (same_key_refl c)) in
    let rest = λ (d : ChannelKey) (e : list_any (same_key d) cs ≡ true). known d (or_right (same_key d c) (list_any (same_key d) cs) e) in
    elim (cases_Bool (same_key key c)) [
      | inl same ↦
          (λ i. record { key = c; standing = standing_named v c item items (on c ∙ same) ok here i }
          ∷ map_same (entry_of v (item ∷ items)) (entry_of v items) cs (λ d e. λ j. record { key = d; standing = standing_unnamed v d item items (on d ∙ other_of key c d cs same apart.0 e) ok (rest d e) j }) i)
          ∙ sym (ap (λ b. if b then changed_entry (next_state item) (entry_of v items c) ∷ map (entry_of v items) cs else entry_of v items c ∷ change_at key (next_state item) (map (entry_of v items) cs)) same)
      | inr differ ↦
          (λ i. record { key = c; standing = standing_unnamed v c item items (on c ∙ differ) ok here i } ∷ change_in v key item items ok on cs apart.1 rest i)
          ∙ sym (ap (λ b. if b then changed_entry (next_state item) (entry_of v items c) ∷ map (entry_of v items) cs else entry_of v items c ∷ change_at key (next_state item) (map (entry_of v items) cs)) differ)
    ]
  where
    other_of : (key c d : ChannelKey) (cs : List ChannelKey) → same_key key c ≡ true → list_any (same_key c) cs ≡ false → list_any (same_key d) cs ≡ true → same_key key d ≡ false
    other_of key c d cs same new e = false_from_ne_true (same_key key d) (λ f. true≢false (sym e ∙ (ap (λ k. list_any (same_key k) cs) (sym (same_key_true key d f) ∙ same_key_true key c same) ∙ new)))

entries_changed : (v : Version) (key : ChannelKey) (item : Item) (items : List Item) → Allowed v (item ∷ items) → ((c : ChannelKey) → names c item ≡ same_key key c) → known_keys (item ∷ items) ≡ known_keys items
    → map (entry_of v (item ∷ items)) (known_keys (item ∷ items)) ≡ change_at key (next_state item) (map (entry_of v items) (known_keys items))
entries_changed v key item items ok on same =
    ap (map (entry_of v (item ∷ items))) same
    ∙ change_in v key item items ok on (known_keys items) (known_apart v items (allowed_tail v item items ok)) (λ c e. known_in_order c items e)

insert_map : (v : Version) (items : List Item) (c : ChannelKey) (cs : List ChannelKey) → map (entry_of v items) (insert_key c cs) ≡ insert_entry (entry_of v items c) (map (entry_of v items) cs)
insert_map v items c [] = refl
insert_map v items c (d ∷ ds) = elim (cases_Bool (precedes d c)) [
  | inl e ↦ rw e (ap (λ es. entry_of v items d ∷ es) (insert_map v items c ds))
  | inr e ↦ rw e refl
]

-- an offer
entries_inserted : (v : Version) (key : ChannelKey) (item : Item) (items : List Item) (s : ChannelState) → Allowed v (item ∷ items) → ((c : ChannelKey) → names c item ≡ same_key key c) → known_keys (item ∷ items) ≡ insert_key key (known_keys items)
    → is_known key items ≡ false → is_known key (item ∷ items) ≡ true → channel_at v key (item ∷ items) ≡ settled s → moved (settled s) ≡ Kept s
    → map (entry_of v (item ∷ items)) (known_keys (item ∷ items)) ≡ insert_entry (entry_at key s) (map (entry_of v items) (known_keys items))
entries_inserted v key item items s ok on grown new known now kept =
    ap (map (entry_of v (item ∷ items))) grown
    ∙ (insert_map v (item ∷ items) key (known_keys items)
    ∙ (λ i. insert_entry (record { key = key; standing = (standing_moved v key (item ∷ items) known ∙ (ap moved now ∙ kept)) i }) (entries_same v item items ok (λ c old. on c ∙ old_differs c old) i)))
  where
    old_differs : (c : ChannelKey) → is_known c items ≡ true → same_key key c ≡ false
    old_differs c old = false_from_ne_true (same_key key c) (λ same. true≢false (sym old ∙ (ap (λ k. is_known k items) (sym (same_key_true key c same)) ∙ new)))

ended_entries : (v : Version) (cause : Cause) (items : List Item) → Allowed v (End cause ∷ items) → (cs : List ChannelKey) → ((c : ChannelKey) → list_any (same_key c) cs ≡ true → is_known c items ≡ true) → map (entry_of v (End cause ∷ items)) cs ≡ map (changed_entry ended_state) (map (entry_of v items) cs)
ended_entries v cause items ok [] known = refl
ended_entries v cause items ok (c ∷ cs) known =
    λ i. record { key = c; standing = standing_named v c (End cause) items refl ok (known c (or_left (same_key c c) (list_any (same_key c) cs) (same_key_refl c))) i }
    ∷ ended_entries v cause items ok cs (λ d e. known d (or_right (same_key d c) (list_any (same_key d) cs) e)) i

hello_entries : (v : Version) (party : Party) (items : List Item) → Allowed v (Hello party ∷ items) → map (entry_of v (Hello party ∷ items)) (known_keys items) ≡ map (entry_of v items) (known_keys items)
hello_entries v party items ok = map_same (entry_of v (Hello party ∷ items)) (entry_of v items) (known_keys items)
    (λ c e. let known = known_in_order c items e in λ i. record { key = c; standing = (standing_after v c (Hello party) items ok known ∙ sym (standing_moved v c items known)) i })

entries_step : (v : Version) (item : Item) (items : List Item) → Allowed v (item ∷ items) → map (entry_of v (item ∷ items)) (known_keys (item ∷ items)) ≡ next_entries v item (map (entry_of v items) (known_keys items))
entries_step v (Hello party) items ok = hello_entries v party items ok
entries_step v (DidOffer key name size) items ok =
    entries_inserted v key (DidOffer key name size) items (offered_state v size) ok (λ c. refl) refl (unknown_before key items (offered_first v key name size items ok).1)
    (or_left (same_key key key) (is_known key items) (same_key_refl key)) (channel_offered v key name size items ok) refl
entries_step v (DidAccept key size) items ok = entries_changed v key (DidAccept key size) items ok (λ c. refl) refl
entries_step v (DidWrite key bytes) items ok = entries_changed v key (DidWrite key bytes) items ok (λ c. refl) refl
entries_step v (DidRead key max) items ok = entries_changed v key (DidRead key max) items ok (λ c. refl) refl
entries_step v (DidComplete key) items ok = entries_changed v key (DidComplete key) items ok (λ c. refl) refl
entries_step v (DidTerminate key) items ok = entries_changed v key (DidTerminate key) items ok (λ c. refl) refl
entries_step v (Got place key (Offer name size)) items ok =
    entries_inserted v key (Got place key (Offer name size)) items (heard_state v (window_of size)) ok (λ c. refl) refl (unknown_before key items (heard_first v key name size items ok.0.unrefused).1)
    (or_left (same_key key key) (is_known key items) (same_key_refl key)) (channel_heard v place key name size items ok) refl
entries_step v (Got place key (OfferAccepted size)) items ok = entries_changed v key (Got place key (OfferAccepted size)) items ok (λ c. refl) refl
entries_step v (Got place key (Content bytes)) items ok = entries_changed v key (Got place key (Content bytes)) items ok (λ c. refl) refl
entries_step v (Got place key ContentWritingCompleted) items ok = entries_changed v key (Got place key ContentWritingCompleted) items ok (λ c. refl) refl
entries_step v (Got place key ChannelTerminated) items ok = entries_changed v key (Got place key ChannelTerminated) items ok (λ c. refl) refl
entries_step v (Got place key (ContentProcessed count)) items ok = entries_changed v key (Got place key (ContentProcessed count)) items ok (λ c. refl) refl
entries_step v (Rejected place key body) items ok = entries_same v (Rejected place key body) items ok
    (λ c known. false_from_ne_true (same_key key c) (λ same. true≢false (sym known ∙ (ap (λ k. is_known k items) (sym (same_key_true key c same)) ∙ unknown_before key items (rejected_first v key body items ok.0.unrefused ok.1).1))))
entries_step v (End cause) items ok = ended_entries v cause items ok (known_keys items) (λ c e. known_in_order c items e)

party_step : (item : Item) (items : List Item) → greeting (item ∷ items) ≡ next_party item (greeting items)
party_step (Hello party) items = refl
party_step item items = refl

cause_step : (item : Item) (items : List Item) → ended (item ∷ items) ≡ next_cause item (ended items)
cause_step (End cause) items = refl
cause_step item items = refl

rejected_step : (item : Item) (items : List Item) → rejected_keys (item ∷ items) ≡ next_rejected item (rejected_keys items)
rejected_step (Rejected place key body) items = refl
rejected_step item items = refl

-- all that an end keeps
pub book_step : (v : Version) (item : Item) (items : List Item) → Allowed v (item ∷ items) → book_of v (item ∷ items) ≡ next_book item (book_of v items)
book_step v item items ok = λ i. record { version = v; party = party_step item items i; cause = cause_step item items i; entries = entries_step v item items ok i; rejected = rejected_step item items i }

-- a known channel's state after one more item
pub known_step : (v : Version) (c : ChannelKey) (item : Item) (items : List Item) → Allowed v (item ∷ items) → is_known c items ≡ true → state_of v c (item ∷ items) ≡ Some (next_on c item (channel_at v c items))
known_step v c item items ok known =
    let later = known_more c item items known in
    ap (λ b. if b then Some (channel_at v c (item ∷ items)) else None) later ∙ ap Some (channel_step v c item items ok (known_unrejected v c (item ∷ items) ok later))

-- Items on a channel whose own termination isn't sent: what becomes emitted, by the state.
use Rattle.std.specs.Prelude.{ℕ, ◌+◌, ◌-◌, min, ◌≤◌, List, ◌∷◌, length, drop, Bool, true, false, ◌&&◌, ◌||◌, ◌==◌, if◌then◌else◌}
use Rattle.std.proofs.Common.{◌≡◌, refl, sym, ◌∙◌, ap, arith, length-drop}
use Rattle.std.proofs.lemmas.Bool.Decides.{nat_tests}
use Rattle.std.proofs.lemmas.List.{drop-drop}
use Rattle.wire_base.specs.declared.frame.Version.{Version}
use Rattle.mux_items.specs.declared.channel.ChannelKey.{ChannelKey}
use Rattle.mux_items.specs.Bodies.{is_one}
use Rattle.mux_items.specs.Items.{Item}
use Rattle.mux_items.specs.Lists.{written, window, is_cut, before_cut, is_accepted_in, granted_in, is_completed_in, within_grant, emitted_in, emitted, has_completed, has_terminated, is_terminated_by_peer, is_rejected, completion_in, completion_emitted, termination_emitted, taken, is_accepted, is_completed, acknowledged, granted, unread, handed}
use Rattle.mux_items.specs.Applying.{Allowed}
use Rattle.mux_items.proofs.Applied.{allowed_tail}
use Rattle.mux_items.proofs.Emission.{no_cut, no_cut_before, emitted_in_more, emitted_in_bound}
use Rattle.mux_items.proofs.Taking.{completion_in_more}
use Rattle.mux_items.proofs.Open.{accepted_heard, accepted_step, completed_heard, completed_step, granted_heard, granted_step, uncut_both}
use Rattle.mux_state.specs.State.{ChannelState, pending_bytes, channel_at}
use Rattle.mux_state.specs.Next.{sendable, goes_whole, is_done, settled}
use Rattle.mux_state.proofs.Fields.{same_state}

-- so many of the bytes that are left may go
abbrev pub spare : (one accepted : Bool) → (granted sent left : ℕ) → ℕ
spare one accepted granted sent left = if accepted then (if one then left else min (granted - sent) left) else 0

spare_sent : (one : Bool) (allowed sent all : ℕ) → sent ≤ (if one then all else min allowed all) → sent + spare one true allowed sent (all - sent) ≡ (if one then all else min allowed all)
spare_sent true allowed sent all le = omega arith
spare_sent false allowed sent all le = omega arith

pub sent_more : (v : Version) (accepted : Bool) (allowed sent all : ℕ) → sent ≤ (if accepted then within_grant v allowed all else 0)
    → sent + spare (is_one v) accepted allowed sent (all - sent) ≡ (if accepted then within_grant v allowed all else 0)
sent_more v true allowed sent all le = spare_sent (is_one v) allowed sent all le
sent_more v false allowed sent all le = omega arith

all_sent : (sent more all : ℕ) → sent ≤ all → sent + more ≤ all → ((all - sent) == more) ≡ ((sent + more) == all)
all_sent sent more all le less = grind (arith, nat_tests)

-- the state with all that an item tells, before what is due is sent
abbrev pub unsent : Version → ChannelKey → Item → List Item → ChannelState
unsent v c item items = record {
  version = v;
  own = c.own;
  window = window c (item ∷ items);
  accepted = is_accepted v c (item ∷ items);
  written = length (written c (item ∷ items));
  pending = drop (emitted v c items) (written c (item ∷ items));
  emitted = emitted v c items;
  completing = has_completed c (item ∷ items);
  completion_sent = completion_emitted v c items;
  granted = granted v c (item ∷ items);
  acknowledged = acknowledged v c (item ∷ items);
  taken = length (taken v c (item ∷ items));
  unread = unread v c (item ∷ items);
  handed = handed v c (item ∷ items);
  completed = is_completed v c (item ∷ items);
  termination_sent = false;
  peer_terminated = false;
}

emitted_uncut : (v : Version) (c : ChannelKey) (items : List Item) → is_cut c items ≡ false → emitted v c items ≡ emitted_in v c items
emitted_uncut v c items e = ap (emitted_in v c) (no_cut c items e)

emitted_by : (v : Version) (a a' : Bool) (g g' : ℕ) (count : ℕ) → a ≡ a' → g ≡ g' → (if a then within_grant v g count else 0) ≡ (if a' then within_grant v g' count else 0)
emitted_by v a a' g g' count e f = λ i. if e i then within_grant v (f i) count else 0

pub emitted_open : (v : Version) (c : ChannelKey) (item : Item) (items : List Item) → Allowed v (item ∷ items) → termination_emitted v c items ≡ false → is_cut c (item ∷ items) ≡ false
    → emitted v c (item ∷ items) ≡ emitted v c items + sendable (unsent v c item items)
emitted_open v c item items ok heard uncut =
    let old = allowed_tail v item items ok in
    let a = is_accepted v c (item ∷ items) in
    let g = granted v c (item ∷ items) in
    let e = emitted v c items in
    let ws = written c (item ∷ items) in
    let now : emitted v c (item ∷ items) ≡ (if a then within_grant v g (length ws) else 0) =
    emitted_uncut v c (item ∷ items) uncut
    ∙ emitted_by v (is_accepted_in c (item ∷ items)) a (granted_in c (item ∷ items)) g (length ws) (accepted_step v c item items heard (accepted_heard v c items old heard)) (granted_step v c item items heard (granted_heard v c items old heard)) in
    let less : e ≤ (if a then within_grant v g (length ws) else 0) =
    omega (arith, emitted_uncut v c items (no_cut_before c item items uncut), emitted_in_more v c item items, emitted_uncut v c (item ∷ items) uncut, now) in
    now ∙ (sym (sent_more v a g e (length ws) less) ∙ ap (λ n. e + spare (is_one v) a g e n) (sym (length-drop e ws)))

done_whole : (v : Version) (c : ChannelKey) (item : Item) (items : List Item) → Allowed v (item ∷ items) → termination_emitted v c items ≡ false → is_cut c (item ∷ items) ≡ false
    → completion_emitted v c (item ∷ items) ≡ goes_whole (unsent v c item items)
done_whole v c item items ok heard uncut =
    let old = allowed_tail v item items ok in
    let a = is_accepted v c (item ∷ items) in
    let h = has_completed c (item ∷ items) in
    let e = emitted v c items in
    let ws = written c (item ∷ items) in
    let more = sendable (unsent v c item items) in
    let sent : emitted v c (item ∷ items) ≡ e + more = emitted_open v c item items ok heard uncut in
    let less : e ≤ length ws = omega (arith, emitted_uncut v c items (no_cut_before c item items uncut), emitted_in_more v c item items, emitted_in_bound v c (item ∷ items)) in
    let whole : e + more ≤ length ws = omega (arith, sent, emitted_uncut v c (item ∷ items) uncut, emitted_in_bound v c (item ∷ items)) in
    ap (completion_in v c) (no_cut c (item ∷ items) uncut)
    ∙ (ap (λ b. b && h && (emitted_in v c (item ∷ items) == length ws)) (accepted_step v c item items heard (accepted_heard v c items old heard))
    ∙ (ap (λ n. a && h && (n == length ws)) (sym (emitted_uncut v c (item ∷ items) uncut) ∙ sent)
    ∙ (ap (λ b. a && h && b) (sym (all_sent e more (length ws) less whole))
    ∙ ap (λ n. a && h && (n == more)) (sym (length-drop e ws)))))

absorbs : (x d : Bool) → (x ≡ true → d ≡ true) → d ≡ (x || d)
absorbs true d f = f refl
absorbs false d f = refl

pub done_open : (v : Version) (c : ChannelKey) (item : Item) (items : List Item) → Allowed v (item ∷ items) → termination_emitted v c items ≡ false → is_cut c (item ∷ items) ≡ false
    → completion_emitted v c (item ∷ items) ≡ is_done (unsent v c item items)
done_open v c item items ok heard uncut =
    let whole = done_whole v c item items ok heard uncut in
    let before : completion_emitted v c items ≡ completion_in v c items = ap (completion_in v c) (no_cut c items (no_cut_before c item items uncut)) in
    let after : completion_emitted v c (item ∷ items) ≡ completion_in v c (item ∷ items) = ap (completion_in v c) (no_cut c (item ∷ items) uncut) in
    whole ∙ absorbs (completion_emitted v c items) (goes_whole (unsent v c item items)) (λ e. sym whole ∙ (after ∙ completion_in_more v c item items ok (sym before ∙ e)))

four_from : (h p r x d y k : Bool) → h ≡ false → p ≡ false → r ≡ false → x ≡ d → y ≡ k → (h || p || r || (x && y)) ≡ (d && k)
four_from h p r x d y k e f g a b = cc

pub terminated_open : (v : Version) (c : ChannelKey) (item : Item) (items : List Item) → Allowed v (item ∷ items) → termination_emitted v c items ≡ false → is_cut c (item ∷ items) ≡ false → is_rejected c (item ∷ items) ≡ false
    → termination_emitted v c (item ∷ items) ≡ (is_done (unsent v c item items) && is_completed v c (item ∷ items))
terminated_open v c item items ok heard uncut unrejected =
    four_from (has_terminated c (item ∷ items)) (is_terminated_by_peer c (item ∷ items)) (is_rejected c (item ∷ items)) (completion_emitted v c (item ∷ items)) (is_done (unsent v c item items)) (is_completed_in c (before_cut c (item ∷ items))) (is_completed v c (item ∷ items))
    (uncut_both c (item ∷ items) uncut).0 (uncut_both c (item ∷ items) uncut).1 unrejected (done_open v c item items ok heard uncut)
    (ap (is_completed_in c) (no_cut c (item ∷ items) uncut) ∙ completed_step v c item items heard (completed_heard v c items (allowed_tail v item items ok) heard))

-- what is due is sent
pub channel_open : (v : Version) (c : ChannelKey) (item : Item) (items : List Item) → Allowed v (item ∷ items) → termination_emitted v c items ≡ false → is_cut c (item ∷ items) ≡ false → is_rejected c (item ∷ items) ≡ false
    → channel_at v c (item ∷ items) ≡ settled (unsent v c item items)
channel_open v c item items ok heard uncut unrejected =
    let sent = emitted_open v c item items ok heard uncut in
    same_state (channel_at v c (item ∷ items)) (settled (unsent v c item items)) refl refl refl refl refl
    (ap (λ b. pending_bytes b (emitted v c (item ∷ items)) (written c (item ∷ items))) uncut
    ∙ (ap (λ n. drop n (written c (item ∷ items))) sent ∙ sym (drop-drop (sendable (unsent v c item items)) (emitted v c items) (written c (item ∷ items)))))
    sent refl (done_open v c item items ok heard uncut) refl refl refl refl refl refl
    (terminated_open v c item items ok heard uncut unrejected) (uncut_both c (item ∷ items) uncut).1

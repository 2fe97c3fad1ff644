-- A channel depends on the items that name it, the handshake and the end alone.
use Rattle.std.specs.Prelude.{ℕ, ◌+◌, min, List, [], ◌∷◌, ◌++◌, length, drop, Bool, true, false, not, ◌&&◌, ◌||◌, ◌==◌, if◌then◌else◌}
use Rattle.std.proofs.Common.{◌≡◌, inl, inr, refl, sym, ◌∙◌, ap}
use Rattle.std.proofs.lemmas.Bool.{cases_Bool, true≢false}
use Rattle.wire_base.specs.declared.frame.Version.{Version}
use Rattle.mux_items.specs.declared.channel.ChannelKey.{ChannelKey}
use Rattle.mux_items.specs.Bodies.{Offer, OfferAccepted, Content, ContentWritingCompleted, ChannelTerminated, ContentProcessed, same_key, window_of}
use Rattle.mux_items.specs.Items.{Item, DidOffer, DidAccept, DidWrite, DidRead, DidComplete, DidTerminate, Got, Rejected, End, names, restricted}
use Rattle.mux_items.specs.Lists.{written, window, has_completed, has_terminated, is_terminated_by_peer, is_rejected, is_cut, before_cut, is_accepted_in, granted_in, is_completed_in, within_grant, emitted_in, emitted, completion_in, completion_emitted, is_finished, termination_emitted, taken, is_accepted, handed, is_dropped, unread_count, unread}
use Rattle.mux_items.proofs.Emission.{written_unnamed, accepted_in_unnamed, granted_in_unnamed, cut_unnamed, no_cut, cut_there}
use Rattle.mux_items.proofs.Taking.{finished_in}

-- what other items leave unchanged, and what follows the older items, is the same on the items that name the channel
same_restricted : {A : Type 0} (c : ChannelKey) (f : List Item → A) → ((item : Item) (items : List Item) → names c item ≡ false → f (item ∷ items) ≡ f items) → ((item : Item) (items : List Item) → f (restricted c items) ≡ f items → f (item ∷ restricted c items) ≡ f (item ∷ items))
    → (items : List Item) → f (restricted c items) ≡ f items
same_restricted c f skip step [] = refl
same_restricted c f skip step (item ∷ items) = elim (cases_Bool (names c item)) [
  | inl e ↦ rw e (step item items (same_restricted c f skip step items))
  | inr e ↦ rw e (same_restricted c f skip step items ∙ sym (skip item items e))
]

restricted_named : (c : ChannelKey) (item : Item) (items : List Item) → names c item ≡ true → restricted c (item ∷ items) ≡ item ∷ restricted c items
restricted_named c item items e = rw e refl

restricted_unnamed : (c : ChannelKey) (item : Item) (items : List Item) → names c item ≡ false → restricted c (item ∷ items) ≡ restricted c items
restricted_unnamed c item items e = rw e refl

-- and the other way round
pub skipped : {A : Type 0} (c : ChannelKey) (f : List Item → A) → ((items : List Item) → f (restricted c items) ≡ f items) → (item : Item) (items : List Item) → names c item ≡ false → f (item ∷ items) ≡ f items
skipped c f same item items e = sym (same (item ∷ items)) ∙ (ap f (restricted_unnamed c item items e) ∙ same items)

written_step : (c : ChannelKey) (item : Item) (xs ys : List Item) → written c xs ≡ written c ys → written c (item ∷ xs) ≡ written c (item ∷ ys)
written_step c (DidWrite key bytes) xs ys e = ap (λ bs. if same_key key c then bs ++ bytes else bs) e
written_step c item xs ys e = e

pub written-restricted : (c : ChannelKey) (items : List Item) → written c (restricted c items) ≡ written c items
written-restricted c = same_restricted c (written c) (written_unnamed c) (λ item items. written_step c item (restricted c items) items)

pub window_unnamed : (c : ChannelKey) (item : Item) (items : List Item) → names c item ≡ false → window c (item ∷ items) ≡ window c items
window_unnamed c (DidOffer key name size) items e = rw e refl
window_unnamed c (DidAccept key size) items e = rw e refl
window_unnamed c item items e = refl

window_step : (c : ChannelKey) (item : Item) (xs ys : List Item) → window c xs ≡ window c ys → window c (item ∷ xs) ≡ window c (item ∷ ys)
window_step c (DidOffer key name size) xs ys e = ap (λ n. if same_key key c then n + size else n) e
window_step c (DidAccept key size) xs ys e = ap (λ n. if same_key key c then n + size else n) e
window_step c item xs ys e = e

pub window-restricted : (c : ChannelKey) (items : List Item) → window c (restricted c items) ≡ window c items
window-restricted c = same_restricted c (window c) (window_unnamed c) (λ item items. window_step c item (restricted c items) items)

completed_unnamed : (c : ChannelKey) (item : Item) (items : List Item) → names c item ≡ false → has_completed c (item ∷ items) ≡ has_completed c items
completed_unnamed c (DidComplete key) items e = rw e refl
completed_unnamed c item items e = refl

completed_step : (c : ChannelKey) (item : Item) (xs ys : List Item) → has_completed c xs ≡ has_completed c ys → has_completed c (item ∷ xs) ≡ has_completed c (item ∷ ys)
completed_step c (DidComplete key) xs ys e = ap (λ b. if same_key key c then true else b) e
completed_step c item xs ys e = e

pub has_completed-restricted : (c : ChannelKey) (items : List Item) → has_completed c (restricted c items) ≡ has_completed c items
has_completed-restricted c = same_restricted c (has_completed c) (completed_unnamed c) (λ item items. completed_step c item (restricted c items) items)

terminated_unnamed : (c : ChannelKey) (item : Item) (items : List Item) → names c item ≡ false → has_terminated c (item ∷ items) ≡ has_terminated c items
terminated_unnamed c (DidTerminate key) items e = rw e refl
terminated_unnamed c item items e = refl

terminated_step : (c : ChannelKey) (item : Item) (xs ys : List Item) → has_terminated c xs ≡ has_terminated c ys → has_terminated c (item ∷ xs) ≡ has_terminated c (item ∷ ys)
terminated_step c (DidTerminate key) xs ys e = ap (λ b. if same_key key c then true else b) e
terminated_step c item xs ys e = e

pub has_terminated-restricted : (c : ChannelKey) (items : List Item) → has_terminated c (restricted c items) ≡ has_terminated c items
has_terminated-restricted c = same_restricted c (has_terminated c) (terminated_unnamed c) (λ item items. terminated_step c item (restricted c items) items)

by_peer_unnamed : (c : ChannelKey) (item : Item) (items : List Item) → names c item ≡ false → is_terminated_by_peer c (item ∷ items) ≡ is_terminated_by_peer c items
by_peer_unnamed c (Got place key ChannelTerminated) items e = rw e refl
by_peer_unnamed c item items e = refl

by_peer_step : (c : ChannelKey) (item : Item) (xs ys : List Item) → is_terminated_by_peer c xs ≡ is_terminated_by_peer c ys → is_terminated_by_peer c (item ∷ xs) ≡ is_terminated_by_peer c (item ∷ ys)
by_peer_step c (Got place key ChannelTerminated) xs ys e = ap (λ b. if same_key key c then true else b) e
by_peer_step c item xs ys e = e

pub is_terminated_by_peer-restricted : (c : ChannelKey) (items : List Item) → is_terminated_by_peer c (restricted c items) ≡ is_terminated_by_peer c items
is_terminated_by_peer-restricted c = same_restricted c (is_terminated_by_peer c) (by_peer_unnamed c) (λ item items. by_peer_step c item (restricted c items) items)

rejected_unnamed : (c : ChannelKey) (item : Item) (items : List Item) → names c item ≡ false → is_rejected c (item ∷ items) ≡ is_rejected c items
rejected_unnamed c (Rejected place key body) items e = rw e refl
rejected_unnamed c item items e = refl

rejected_step : (c : ChannelKey) (item : Item) (xs ys : List Item) → is_rejected c xs ≡ is_rejected c ys → is_rejected c (item ∷ xs) ≡ is_rejected c (item ∷ ys)
rejected_step c (Rejected place key body) xs ys e = ap (λ b. if same_key key c then true else b) e
rejected_step c item xs ys e = e

pub is_rejected-restricted : (c : ChannelKey) (items : List Item) → is_rejected c (restricted c items) ≡ is_rejected c items
is_rejected-restricted c = same_restricted c (is_rejected c) (rejected_unnamed c) (λ item items. rejected_step c item (restricted c items) items)

cut_step : (c : ChannelKey) (item : Item) (xs ys : List Item) → is_cut c xs ≡ is_cut c ys → is_cut c (item ∷ xs) ≡ is_cut c (item ∷ ys)
cut_step c (DidTerminate key) xs ys e = ap (λ b. if same_key key c then true else b) e
cut_step c (Got place key ChannelTerminated) xs ys e = ap (λ b. if same_key key c then true else b) e
cut_step c (End cause) xs ys e = refl
cut_step c item xs ys e = e

pub is_cut-restricted : (c : ChannelKey) (items : List Item) → is_cut c (restricted c items) ≡ is_cut c items
is_cut-restricted c = same_restricted c (is_cut c) (cut_unnamed c) (λ item items. cut_step c item (restricted c items) items)

accepted_in_step : (c : ChannelKey) (item : Item) (xs ys : List Item) → is_accepted_in c xs ≡ is_accepted_in c ys → is_accepted_in c (item ∷ xs) ≡ is_accepted_in c (item ∷ ys)
accepted_in_step c (DidAccept key size) xs ys e = ap (λ b. if same_key key c then true else b) e
accepted_in_step c (Got place key (OfferAccepted size)) xs ys e = ap (λ b. if same_key key c then true else b) e
accepted_in_step c item xs ys e = e

pub is_accepted_in-restricted : (c : ChannelKey) (items : List Item) → is_accepted_in c (restricted c items) ≡ is_accepted_in c items
is_accepted_in-restricted c = same_restricted c (is_accepted_in c) (accepted_in_unnamed c) (λ item items. accepted_in_step c item (restricted c items) items)

granted_in_step : (c : ChannelKey) (item : Item) (xs ys : List Item) → granted_in c xs ≡ granted_in c ys → granted_in c (item ∷ xs) ≡ granted_in c (item ∷ ys)
granted_in_step c (Got place key (Offer name size)) xs ys e = ap (λ n. if same_key key c then n + window_of size else n) e
granted_in_step c (Got place key (OfferAccepted size)) xs ys e = ap (λ n. if same_key key c then n + window_of size else n) e
granted_in_step c (Got place key (ContentProcessed count)) xs ys e = ap (λ n. if same_key key c then n + count else n) e
granted_in_step c item xs ys e = e

pub granted_in-restricted : (c : ChannelKey) (items : List Item) → granted_in c (restricted c items) ≡ granted_in c items
granted_in-restricted c = same_restricted c (granted_in c) (granted_in_unnamed c) (λ item items. granted_in_step c item (restricted c items) items)

completed_in_unnamed : (c : ChannelKey) (item : Item) (items : List Item) → names c item ≡ false → is_completed_in c (item ∷ items) ≡ is_completed_in c items
completed_in_unnamed c (Got place key ContentWritingCompleted) items e = rw e refl
completed_in_unnamed c item items e = refl

completed_in_step : (c : ChannelKey) (item : Item) (xs ys : List Item) → is_completed_in c xs ≡ is_completed_in c ys → is_completed_in c (item ∷ xs) ≡ is_completed_in c (item ∷ ys)
completed_in_step c (Got place key ContentWritingCompleted) xs ys e = ap (λ b. if same_key key c then true else b) e
completed_in_step c item xs ys e = e

pub is_completed_in-restricted : (c : ChannelKey) (items : List Item) → is_completed_in c (restricted c items) ≡ is_completed_in c items
is_completed_in-restricted c = same_restricted c (is_completed_in c) (completed_in_unnamed c) (λ item items. completed_in_step c item (restricted c items) items)

emitted_from : (v : Version) (a a' : Bool) (g g' : ℕ) (w w' : List ℕ) → a ≡ a' → g ≡ g' → w ≡ w' → (if a then within_grant v g (length w) else 0) ≡ (if a' then within_grant v g' (length w') else 0)
emitted_from v a a' g g' w w' e f k = cc

pub emitted_in-restricted : (v : Version) (c : ChannelKey) (items : List Item) → emitted_in v c (restricted c items) ≡ emitted_in v c items
emitted_in-restricted v c items = emitted_from v (is_accepted_in c (restricted c items)) (is_accepted_in c items) (granted_in c (restricted c items)) (granted_in c items) (written c (restricted c items)) (written c items) (is_accepted_in-restricted c items) (granted_in-restricted c items) (written-restricted c items)

completion_from : (a a' h h' : Bool) (m m' : ℕ) (w w' : List ℕ) → a ≡ a' → h ≡ h' → m ≡ m' → w ≡ w' → (a && h && (m == length w)) ≡ (a' && h' && (m' == length w'))
completion_from a a' h h' m m' w w' e f k l = cc

pub completion_in-restricted : (v : Version) (c : ChannelKey) (items : List Item) → completion_in v c (restricted c items) ≡ completion_in v c items
completion_in-restricted v c items = completion_from (is_accepted_in c (restricted c items)) (is_accepted_in c items) (has_completed c (restricted c items)) (has_completed c items) (emitted_in v c (restricted c items)) (emitted_in v c items) (written c (restricted c items)) (written c items) (is_accepted_in-restricted c items) (has_completed-restricted c items) (emitted_in-restricted v c items) (written-restricted c items)

finished_in-restricted : (v : Version) (c : ChannelKey) (items : List Item) → finished_in v c (restricted c items) ≡ finished_in v c items
finished_in-restricted v c items = ap (λ b. b && is_completed_in c (restricted c items)) (completion_in-restricted v c items) ∙ ap (λ b. completion_in v c items && b) (is_completed_in-restricted c items)

cut_nowhere : (c : ChannelKey) (item : Item) (items : List Item) → is_cut c (item ∷ items) ≡ false → before_cut c (item ∷ items) ≡ item ∷ items
cut_nowhere c item items e = rw e refl

-- what depends on the channel's items alone does so before the cut too
before_step : {A : Type 0} (c : ChannelKey) (f : List Item → A) → ((items : List Item) → f (restricted c items) ≡ f items) → (item : Item) (items : List Item) → names c item ≡ true → f (before_cut c (restricted c items)) ≡ f (before_cut c items) → f (before_cut c (item ∷ restricted c items)) ≡ f (before_cut c (item ∷ items))
before_step c f same item items named older =
    let cut = cut_step c item (restricted c items) items (is_cut-restricted c items) in
    elim (cases_Bool (is_cut c (item ∷ items))) [
      | inl e ↦ ap f (cut_there c item (restricted c items) (cut ∙ e)) ∙ (older ∙ sym (ap f (cut_there c item items e)))
      | inr e ↦ ap f (cut_nowhere c item (restricted c items) (cut ∙ e)) ∙ (sym (ap f (restricted_named c item items named)) ∙ (same (item ∷ items) ∙ sym (ap f (cut_nowhere c item items e))))
    ]

before_unnamed : {A : Type 0} (c : ChannelKey) (f : List Item → A) → ((items : List Item) → f (restricted c items) ≡ f items) → (item : Item) (items : List Item) → names c item ≡ false → f (before_cut c (item ∷ items)) ≡ f (before_cut c items)
before_unnamed c f same item items other = elim (cases_Bool (is_cut c (item ∷ items))) [
  | inl e ↦ ap f (cut_there c item items e)
  | inr e ↦ ap f (cut_nowhere c item items e) ∙ (skipped c f same item items other ∙ sym (ap f (no_cut c items (sym (cut_unnamed c item items other) ∙ e))))
]

pub before_cut-restricted : {A : Type 0} (c : ChannelKey) (f : List Item → A) → ((items : List Item) → f (restricted c items) ≡ f items) → (items : List Item) → f (before_cut c (restricted c items)) ≡ f (before_cut c items)
before_cut-restricted c f same [] = refl
before_cut-restricted c f same (item ∷ items) = elim (cases_Bool (names c item)) [
  | inl e ↦ ap (λ xs. f (before_cut c xs)) (restricted_named c item items e) ∙ before_step c f same item items e (before_cut-restricted c f same items)
  | inr e ↦ ap (λ xs. f (before_cut c xs)) (restricted_unnamed c item items e) ∙ (before_cut-restricted c f same items ∙ sym (before_unnamed c f same item items e))
]

pub emitted-restricted : (v : Version) (c : ChannelKey) (items : List Item) → emitted v c (restricted c items) ≡ emitted v c items
emitted-restricted v c = before_cut-restricted c (emitted_in v c) (emitted_in-restricted v c)

pub completion_emitted-restricted : (v : Version) (c : ChannelKey) (items : List Item) → completion_emitted v c (restricted c items) ≡ completion_emitted v c items
completion_emitted-restricted v c = before_cut-restricted c (completion_in v c) (completion_in-restricted v c)

pub is_finished-restricted : (v : Version) (c : ChannelKey) (items : List Item) → is_finished v c (restricted c items) ≡ is_finished v c items
is_finished-restricted v c = before_cut-restricted c (finished_in v c) (finished_in-restricted v c)

or_from_four : (a a' b b' x x' y y' : Bool) → a ≡ a' → b ≡ b' → x ≡ x' → y ≡ y' → (a || b || x || y) ≡ (a' || b' || x' || y')
or_from_four a a' b b' x x' y y' e f k l = cc

pub termination_emitted-restricted : (v : Version) (c : ChannelKey) (items : List Item) → termination_emitted v c (restricted c items) ≡ termination_emitted v c items
termination_emitted-restricted v c items = or_from_four (has_terminated c (restricted c items)) (has_terminated c items) (is_terminated_by_peer c (restricted c items)) (is_terminated_by_peer c items) (is_rejected c (restricted c items)) (is_rejected c items) (is_finished v c (restricted c items)) (is_finished v c items)
    (has_terminated-restricted c items) (is_terminated_by_peer-restricted c items) (is_rejected-restricted c items) (is_finished-restricted v c items)

-- an item on another channel isn't heeded
pub unheeded : {A : Type 0} (same terminated : Bool) (x y : A) → same ≡ false → (if same && not terminated then x else y) ≡ y
unheeded true terminated x y e = absurd (true≢false e)
unheeded false terminated x y e = refl

heard_same : {A : Type 0} (same t t' : Bool) (f : A → A) (x x' : A) → t ≡ t' → x ≡ x' → (if same && not t then f x else x) ≡ (if same && not t' then f x' else x')
heard_same same t t' f x x' e k = cc

pub termination_unnamed : (v : Version) (c : ChannelKey) (item : Item) (items : List Item) → names c item ≡ false → termination_emitted v c (item ∷ items) ≡ termination_emitted v c items
termination_unnamed v c = skipped c (termination_emitted v c) (termination_emitted-restricted v c)

pub taken_unnamed : (v : Version) (c : ChannelKey) (item : Item) (items : List Item) → names c item ≡ false → taken v c (item ∷ items) ≡ taken v c items
taken_unnamed v c (Got place key (Content bytes)) items e = unheeded (same_key key c) (termination_emitted v c items) (taken v c items ++ bytes) (taken v c items) e
taken_unnamed v c item items e = refl

taken_step : (v : Version) (c : ChannelKey) (item : Item) (xs ys : List Item) → termination_emitted v c xs ≡ termination_emitted v c ys → taken v c xs ≡ taken v c ys → taken v c (item ∷ xs) ≡ taken v c (item ∷ ys)
taken_step v c (Got place key (Content bytes)) xs ys ended e = heard_same (same_key key c) (termination_emitted v c xs) (termination_emitted v c ys) (λ bs. bs ++ bytes) (taken v c xs) (taken v c ys) ended e
taken_step v c item xs ys ended e = e

pub taken-restricted : (v : Version) (c : ChannelKey) (items : List Item) → taken v c (restricted c items) ≡ taken v c items
taken-restricted v c = same_restricted c (taken v c) (taken_unnamed v c) (λ item items. taken_step v c item (restricted c items) items (termination_emitted-restricted v c items))

pub accepted_unnamed : (v : Version) (c : ChannelKey) (item : Item) (items : List Item) → names c item ≡ false → is_accepted v c (item ∷ items) ≡ is_accepted v c items
accepted_unnamed v c (DidAccept key size) items e = rw e refl
accepted_unnamed v c (Got place key (OfferAccepted size)) items e = unheeded (same_key key c) (termination_emitted v c items) true (is_accepted v c items) e
accepted_unnamed v c item items e = refl

accepted_step : (v : Version) (c : ChannelKey) (item : Item) (xs ys : List Item) → termination_emitted v c xs ≡ termination_emitted v c ys → is_accepted v c xs ≡ is_accepted v c ys → is_accepted v c (item ∷ xs) ≡ is_accepted v c (item ∷ ys)
accepted_step v c (DidAccept key size) xs ys ended e = ap (λ b. if same_key key c then true else b) e
accepted_step v c (Got place key (OfferAccepted size)) xs ys ended e = heard_same (same_key key c) (termination_emitted v c xs) (termination_emitted v c ys) (λ b. true) (is_accepted v c xs) (is_accepted v c ys) ended e
accepted_step v c item xs ys ended e = e

pub is_accepted-restricted : (v : Version) (c : ChannelKey) (items : List Item) → is_accepted v c (restricted c items) ≡ is_accepted v c items
is_accepted-restricted v c = same_restricted c (is_accepted v c) (accepted_unnamed v c) (λ item items. accepted_step v c item (restricted c items) items (termination_emitted-restricted v c items))

dropped_from : (h h' p p' a a' : Bool) → h ≡ h' → p ≡ p' → a ≡ a' → (h || (p && not a)) ≡ (h' || (p' && not a'))
dropped_from h h' p p' a a' e f k = cc

pub is_dropped-restricted : (v : Version) (c : ChannelKey) (items : List Item) → is_dropped v c (restricted c items) ≡ is_dropped v c items
is_dropped-restricted v c items = dropped_from (has_terminated c (restricted c items)) (has_terminated c items) (is_terminated_by_peer c (restricted c items)) (is_terminated_by_peer c items) (is_accepted v c (restricted c items)) (is_accepted v c items)
    (has_terminated-restricted c items) (is_terminated_by_peer-restricted c items) (is_accepted-restricted v c items)

pub handed_unnamed : (v : Version) (c : ChannelKey) (item : Item) (items : List Item) → names c item ≡ false → handed v c (item ∷ items) ≡ handed v c items
handed_unnamed v c (DidRead key max) items e = rw e refl
handed_unnamed v c item items e = refl

handed_from : (same d d' : Bool) (max m m' : ℕ) (bs bs' : List ℕ) → d ≡ d' → bs ≡ bs' → m ≡ m' → (if same then m + min max (unread_count d (length bs) m) else m) ≡ (if same then m' + min max (unread_count d' (length bs') m') else m')
handed_from same d d' max m m' bs bs' e f k = cc

handed_step : (v : Version) (c : ChannelKey) (item : Item) (xs ys : List Item) → is_dropped v c xs ≡ is_dropped v c ys → taken v c xs ≡ taken v c ys → handed v c xs ≡ handed v c ys → handed v c (item ∷ xs) ≡ handed v c (item ∷ ys)
handed_step v c (DidRead key max) xs ys dropped took e = handed_from (same_key key c) (is_dropped v c xs) (is_dropped v c ys) max (handed v c xs) (handed v c ys) (taken v c xs) (taken v c ys) dropped took e
handed_step v c item xs ys dropped took e = e

pub handed-restricted : (v : Version) (c : ChannelKey) (items : List Item) → handed v c (restricted c items) ≡ handed v c items
handed-restricted v c = same_restricted c (handed v c) (handed_unnamed v c) (λ item items. handed_step v c item (restricted c items) items (is_dropped-restricted v c items) (taken-restricted v c items))

unread_from : (d d' : Bool) (m m' : ℕ) (bs bs' : List ℕ) → d ≡ d' → m ≡ m' → bs ≡ bs' → (if d then [] else drop m bs) ≡ (if d' then [] else drop m' bs')
unread_from d d' m m' bs bs' e f k = cc

pub unread-restricted : (v : Version) (c : ChannelKey) (items : List Item) → unread v c (restricted c items) ≡ unread v c items
unread-restricted v c items = unread_from (is_dropped v c (restricted c items)) (is_dropped v c items) (handed v c (restricted c items)) (handed v c items) (taken v c (restricted c items)) (taken v c items)
    (is_dropped-restricted v c items) (handed-restricted v c items) (taken-restricted v c items)

pub unread_unnamed : (v : Version) (c : ChannelKey) (item : Item) (items : List Item) → names c item ≡ false → unread v c (item ∷ items) ≡ unread v c items
unread_unnamed v c = skipped c (unread v c) (unread-restricted v c)

-- What newer items add to older ones, and what they leave.
use Rattle.std.specs.Prelude.{List, [], ◌∷◌, ◌++◌, Bool, true, false, ◌||◌}
use Rattle.std.proofs.Common.{◌≡◌, refl, sym, ◌∙◌, ap, append_assoc}
use Rattle.std.proofs.lemmas.Bool.{false≢true, false_from_ne_true}
use Rattle.std.proofs.lemmas.List.{append-nil}
use Rattle.wire_base.specs.declared.frame.Version.{Version}
use Rattle.mux_items.specs.declared.channel.ChannelKey.{ChannelKey}
use Rattle.mux_items.specs.Bodies.{ChannelFrame, OfferAccepted, same_key, is_three}
use Rattle.mux_items.specs.Items.{Item, Hello, DidOffer, DidAccept, DidWrite, DidRead, DidComplete, DidTerminate, Got, Rejected, End, greeting, is_running}
use Rattle.mux_items.specs.Lists.{termination_emitted, is_accepted, heeds}
use Rattle.mux_items.specs.Due.{due, sent, got}
use Rattle.mux_items.specs.Refusals.{is_ready, is_greeted}
use Rattle.mux_items.specs.Applying.{Allowed}
use Rattle.mux_items.proofs.Applied.{allowed_tail}
use Rattle.mux_items.proofs.Emission.{if_or}
use Rattle.mux_items.proofs.Taking.{got_more, termination_more}

-- more frames were due
pub sent-newer : (v : Version) (newer items : List Item) → (more : List ChannelFrame) × (sent v (newer ++ items) ≡ sent v items ++ more)
sent-newer v [] items = ([], sym (append-nil (sent v items)))
sent-newer v (item ∷ newer) items =
    let on = sent-newer v newer items in
    let last = due v item (newer ++ items) in
    (on.0 ++ last, ap (λ fs. fs ++ last) on.1 ∙ append_assoc (sent v items) on.0 last)

-- and more were applied
pub got-newer : (newer items : List Item) → (more : List ChannelFrame) × (got (newer ++ items) ≡ got items ++ more)
got-newer [] items = ([], sym (append-nil (got items)))
got-newer (item ∷ newer) items =
    let on = got-newer newer items in
    let last = got_more item (newer ++ items) in
    (on.0 ++ last.0, last.1 ∙ (ap (λ fs. fs ++ last.0) on.1 ∙ append_assoc (got items) on.0 last.0))

pub allowed_older : (v : Version) (newer items : List Item) → Allowed v (newer ++ items) → Allowed v items
allowed_older v [] items ok = ok
allowed_older v (item ∷ newer) items ok = allowed_older v newer items (allowed_tail v item (newer ++ items) ok)

-- an end that is ready stays so

greeted_more : (item : Item) (items : List Item) → is_greeted (greeting items) ≡ true → is_greeted (greeting (item ∷ items)) ≡ true
greeted_more (Hello party) items e = refl
greeted_more item items e = e

ready_by : (three greeted greeted' : Bool) → (greeted ≡ true → greeted' ≡ true) → (three || greeted) ≡ true → (three || greeted') ≡ true
ready_by true greeted greeted' f e = refl
ready_by false greeted greeted' f e = f e

pub ready_more : (v : Version) (item : Item) (items : List Item) → is_ready v items ≡ true → is_ready v (item ∷ items) ≡ true
ready_more v item items e = ready_by (is_three v) (is_greeted (greeting items)) (is_greeted (greeting (item ∷ items))) (greeted_more item items) e

pub ready_newer : (v : Version) (newer items : List Item) → is_ready v items ≡ true → is_ready v (newer ++ items) ≡ true
ready_newer v [] items e = e
ready_newer v (item ∷ newer) items e = ready_more v item (newer ++ items) (ready_newer v newer items e)

-- what is so of an end was so before its newest item

pub running_before : (item : Item) (items : List Item) → is_running (item ∷ items) ≡ true → is_running items ≡ true
running_before (Hello party) items e = e
running_before (DidOffer key name size) items e = e
running_before (DidAccept key size) items e = e
running_before (DidWrite key bytes) items e = e
running_before (DidRead key max) items e = e
running_before (DidComplete key) items e = e
running_before (DidTerminate key) items e = e
running_before (Got place key body) items e = e
running_before (Rejected place key body) items e = e
running_before (End cause) items e = absurd (false≢true e)

pub heard_before : (v : Version) (c : ChannelKey) (item : Item) (items : List Item) → Allowed v (item ∷ items) → termination_emitted v c (item ∷ items) ≡ false → termination_emitted v c items ≡ false
heard_before v c item items ok e = false_from_ne_true (termination_emitted v c items) (λ sent. false≢true (sym e ∙ termination_more v c item items sent ok))

pub accepted_more : (v : Version) (c : ChannelKey) (item : Item) (items : List Item) → is_accepted v c items ≡ true → is_accepted v c (item ∷ items) ≡ true
accepted_more v c (DidAccept key size) items e = if_or (same_key key c) (is_accepted v c items) e
accepted_more v c (Got place key (OfferAccepted size)) items e = if_or (heeds v key c items) (is_accepted v c items) e
accepted_more v c item items e = e

pub unaccepted_before : (v : Version) (c : ChannelKey) (item : Item) (items : List Item) → is_accepted v c (item ∷ items) ≡ false → is_accepted v c items ≡ false
unaccepted_before v c item items e = false_from_ne_true (is_accepted v c items) (λ a. false≢true (sym e ∙ accepted_more v c item items a))

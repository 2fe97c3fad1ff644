-- The frames that an end sends on a channel come in their order.
use Rattle.std.specs.Prelude.{ℕ, min, List, [], ◌∷◌, ◌++◌, length, map, Bool, true, false, not, ◌==◌, ◌&&◌, ◌||◌, if◌then◌else◌}
use Rattle.std.proofs.Common.{◌≡◌, inl, inr, refl, sym, ◌∙◌, ap, ap₂, subst}
use Rattle.std.proofs.lemmas.Bool.{cases_Bool, true≢false, false≢true, and_parts, not-true, false_from_ne_true}
use Rattle.wire_base.specs.declared.frame.Version.{Version}
use Rattle.mux_items.specs.declared.channel.ChannelKey.{ChannelKey}
use Rattle.mux_items.specs.Bodies.{FrameBody, Offer, OfferAccepted, Content, ContentWritingCompleted, ChannelTerminated, ContentProcessed, ChannelFrame, frame_on, same_key, is_one}
use Rattle.mux_items.specs.Items.{Item, Hello, DidOffer, DidAccept, DidWrite, DidRead, DidComplete, DidTerminate, Got, Rejected, End, names, is_running}
use Rattle.mux_items.specs.Lists.{before_cut, is_accepted_in, is_offered, has_terminated, is_terminated_by_peer, is_rejected, is_finished, completion_emitted, termination_emitted, is_accepted, is_live, unread}
use Rattle.mux_items.specs.Due.{pieces, content_frames, newly_emitted, completes, terminates, due_on, written_window, acknowledgement, due, sent}
use Rattle.mux_items.specs.Applying.{Allowed}
use Rattle.mux_items.proofs.Keys.{same_key_refl, key_cases}
use Rattle.mux_items.proofs.Emission.{before_cut_cases, accepted_in_more}
use Rattle.mux_items.proofs.Applied.{allowed_tail}
use Rattle.mux_items.proofs.Taking.{termination_more}
use Rattle.mux_items.proofs.Apart.{skipped, completion_emitted-restricted, termination_unnamed, accepted_unnamed}
use Rattle.mux_items.proofs.Staging.{Stage, Fresh, Open, Done, Over, next_stage, stage_with, stage_after, is_open, stage_by, stage_at}
use Rattle.mux_items.proofs.Permits.{accept_permits, acceptance_permits}
use Rattle.mux_items.proofs.Window.{unheeded_over}
use Rattle.mux_items.proofs.Open.{accepted_heard}
use Rattle.mux_items.proofs.Exact.{rejected_over}
use Rattle.mux_items.proofs.Offered.{heard_first, rejected_first, offered_first, never_over, never_done, never_accepted, completion_same, finished_same}
use Rattle.mux_items.proofs.Emits.{none_emitted, done_more, emitted_done, still_over, still_shut, open_offered, open_accepted, accepted_is_open, completion_in_all}

pub stage_after-append : (c : ChannelKey) (s : Stage) (fs gs : List ChannelFrame) → stage_after c s (fs ++ gs) ≡ stage_after c (stage_after c s fs) gs
stage_after-append c s [] gs = refl
stage_after-append c s (f ∷ fs) gs = stage_after-append c (stage_with c s f) fs gs

-- before a channel is offered nothing is sent on it

open_none : (own : Bool) → (if own then false else false) ≡ false
open_none true = refl
open_none false = refl

never_open : (v : Version) (c : ChannelKey) (items : List Item) → Allowed v items → is_offered c items ≡ false → is_open v c items ≡ false
never_open v c items ok e = rw (e, never_accepted v c items ok e) (open_none c.own)

pub never_stage : (v : Version) (c : ChannelKey) (items : List Item) → Allowed v items → is_offered c items ≡ false → stage_at v c items ≡ Fresh
never_stage v c items ok e = rw (never_over v c items ok e, never_done v c items ok e, never_open v c items ok e) refl

-- frames on other channels

pieces_else : (c key : ChannelKey) (s : Stage) (bodies : List (List ℕ)) → same_key key c ≡ false → stage_after c s (map (λ piece. frame_on key (Content piece)) bodies) ≡ s
pieces_else c key s [] e = refl
pieces_else c key s (body ∷ bodies) e = ap (λ b. stage_after c (if b then next_stage c.own s (Content body) else s) (map (λ piece. frame_on key (Content piece)) bodies)) e ∙ pieces_else c key s bodies e

one_else : (c key : ChannelKey) (s : Stage) (body : FrameBody) → same_key key c ≡ false → stage_after c s (frame_on key body ∷ []) ≡ s
one_else c key s body e = ap (λ b. if b then next_stage c.own s body else s) e

if_else : (c key : ChannelKey) (s : Stage) (body : FrameBody) (b : Bool) → same_key key c ≡ false → stage_after c s (if b then frame_on key body ∷ [] else []) ≡ s
if_else c key s body true e = one_else c key s body e
if_else c key s body false e = refl

due_on_else : (v : Version) (c key : ChannelKey) (s : Stage) (first : List ChannelFrame) (item : Item) (items : List Item) → same_key key c ≡ false → stage_after c s first ≡ s → stage_after c s (due_on v key first item items) ≡ s
due_on_else v c key s first item items e h =
    let f = content_frames key (newly_emitted v key item items) in
    let a : List ChannelFrame = if completes v key item items then frame_on key ContentWritingCompleted ∷ [] else [] in
    let b : List ChannelFrame = if terminates v key item items then frame_on key ChannelTerminated ∷ [] else [] in
    stage_after-append c s (first ++ f ++ a) b ∙ (ap (λ s. stage_after c s b) (stage_after-append c s (first ++ f) a ∙ (ap (λ s. stage_after c s a) (stage_after-append c s first f
    ∙ (ap (λ s. stage_after c s f) h ∙ pieces_else c key s (pieces (newly_emitted v key item items)) e)) ∙ if_else c key s ContentWritingCompleted (completes v key item items) e)) ∙ if_else c key s ChannelTerminated (terminates v key item items) e)

acknowledgement_else : (v : Version) (c key : ChannelKey) (s : Stage) (count : ℕ) (items : List Item) → same_key key c ≡ false → stage_after c s (acknowledgement v key count items) ≡ s
acknowledgement_else v c key s count items e = by (is_one v) (count == 0) (is_running items && is_live v key items)
  where
    by : (one none live : Bool) → stage_after c s (if one then [] else if none then [] else if live then frame_on key (ContentProcessed count) ∷ [] else []) ≡ s
    by true none live = refl
    by false true live = refl
    by false false live = if_else c key s (ContentProcessed count) live e

due_else : (v : Version) (c : ChannelKey) (s : Stage) (item : Item) (items : List Item) → names c item ≡ false → stage_after c s (due v item items) ≡ s
due_else v c s (Hello party) items e = refl
due_else v c s (DidOffer key name size) items e = due_on_else v c key s (frame_on key (Offer name (written_window v size)) ∷ []) (DidOffer key name size) items e (one_else c key s (Offer name (written_window v size)) e)
due_else v c s (DidAccept key size) items e = due_on_else v c key s (frame_on key (OfferAccepted (written_window v size)) ∷ []) (DidAccept key size) items e (one_else c key s (OfferAccepted (written_window v size)) e)
due_else v c s (DidWrite key bytes) items e = due_on_else v c key s [] (DidWrite key bytes) items e refl
due_else v c s (DidRead key max) items e = acknowledgement_else v c key s (min max (length (unread v key items))) items e
due_else v c s (DidComplete key) items e = due_on_else v c key s [] (DidComplete key) items e refl
due_else v c s (DidTerminate key) items e = due_on_else v c key s [] (DidTerminate key) items e refl
due_else v c s (Got place key body) items e = due_on_else v c key s [] (Got place key body) items e refl
due_else v c s (Rejected place key body) items e = one_else c key s ChannelTerminated e
due_else v c s (End cause) items e = refl

-- an item on another channel leaves where the channel stands

offered_unnamed : (c : ChannelKey) (item : Item) (items : List Item) → names c item ≡ false → is_offered c (item ∷ items) ≡ is_offered c items
offered_unnamed c (DidOffer key name size) items e = ap (λ b. if b then true else is_offered c items) e
offered_unnamed c (Got place key (Offer name size)) items e = ap (λ b. if b then true else is_offered c items) e
offered_unnamed c (Rejected place key body) items e = ap (λ b. if b then true else is_offered c items) e
offered_unnamed c item items e = refl

stage_same : (v : Version) (c : ChannelKey) (item : Item) (items : List Item) → termination_emitted v c (item ∷ items) ≡ termination_emitted v c items → completion_emitted v c (item ∷ items) ≡ completion_emitted v c items → is_open v c (item ∷ items) ≡ is_open v c items → stage_at v c (item ∷ items) ≡ stage_at v c items
stage_same v c item items t k o = by (termination_emitted v c (item ∷ items)) (termination_emitted v c items) (completion_emitted v c (item ∷ items)) (completion_emitted v c items) (is_open v c (item ∷ items)) (is_open v c items) t k o
  where
    by : (t t' k k' o o' : Bool) → t ≡ t' → k ≡ k' → o ≡ o' → stage_by t k o ≡ stage_by t' k' o'
    by t t' k k' o o' e f g = cc

stage_unnamed : (v : Version) (c : ChannelKey) (item : Item) (items : List Item) → names c item ≡ false → stage_at v c (item ∷ items) ≡ stage_at v c items
stage_unnamed v c item items e =
    stage_same v c item items (termination_unnamed v c item items e) (skipped c (completion_emitted v c) (completion_emitted-restricted v c) item items e)
    (ap₂ (λ a b. if c.own then a else b) (offered_unnamed c item items e) (accepted_unnamed v c item items e))

-- content, completion and termination on the channel

abbrev pub ends : (own completes terminates : Bool) → Stage → Stage
ends own completes terminates s =
    let done = if completes then next_stage own s ContentWritingCompleted else s in
    if terminates then next_stage own done ChannelTerminated else done

one_on : (c : ChannelKey) (s : Stage) (body : FrameBody) → stage_after c s (frame_on c body ∷ []) ≡ next_stage c.own s body
one_on c s body = ap (λ b. if b then next_stage c.own s body else s) (same_key_refl c)

if_on : (c : ChannelKey) (s : Stage) (body : FrameBody) (b : Bool) → stage_after c s (if b then frame_on c body ∷ [] else []) ≡ (if b then next_stage c.own s body else s)
if_on c s body true = one_on c s body
if_on c s body false = refl

due_on_ends : (v : Version) (c : ChannelKey) (s : Stage) (first : List ChannelFrame) (item : Item) (items : List Item)
    → stage_after c s (due_on v c first item items) ≡ ends c.own (completes v c item items) (terminates v c item items) (stage_after c (stage_after c s first) (content_frames c (newly_emitted v c item items)))
due_on_ends v c s first item items =
    let f = content_frames c (newly_emitted v c item items) in
    let a : List ChannelFrame = if completes v c item items then frame_on c ContentWritingCompleted ∷ [] else [] in
    let b : List ChannelFrame = if terminates v c item items then frame_on c ChannelTerminated ∷ [] else [] in
    stage_after-append c s (first ++ f ++ a) b ∙ (ap (λ s. stage_after c s b) (stage_after-append c s (first ++ f) a ∙ (ap (λ s. stage_after c s a) (stage_after-append c s first f)
    ∙ if_on c (stage_after c (stage_after c s first) f) ContentWritingCompleted (completes v c item items)))
    ∙ if_on c (if completes v c item items then next_stage c.own (stage_after c (stage_after c s first) f) ContentWritingCompleted else stage_after c (stage_after c s first) f) ChannelTerminated (terminates v c item items))

pieces_open : (c : ChannelKey) (bodies : List (List ℕ)) → stage_after c Open (map (λ piece. frame_on c (Content piece)) bodies) ≡ Open
pieces_open c [] = refl
pieces_open c (body ∷ bodies) = ap (λ b. stage_after c (if b then Open else Open) (map (λ piece. frame_on c (Content piece)) bodies)) (same_key_refl c) ∙ pieces_open c bodies

content_none : (c : ChannelKey) (s : Stage) (bytes : List ℕ) → bytes ≡ [] → stage_after c s (content_frames c bytes) ≡ s
content_none c s bytes e = ap (λ bs. stage_after c s (content_frames c bs)) e

-- how an item moves a channel: termination, completion, and whether it is open, before and after
record Moves (own t k o t' k' : Bool) (content : List ℕ) : Type 0 where
  more_t : t ≡ true → t' ≡ true
  more_k : k ≡ true → k' ≡ true
  over : t ≡ true → (content ≡ []) × (k' ≡ true → k ≡ true)
  done : k ≡ true → content ≡ []
  shut : t ≡ false → o ≡ false → (content ≡ []) × (k' ≡ true → k ≡ true)
  held : t ≡ false → o ≡ false → own ≡ true → t' ≡ false

done_ends : (own t' : Bool) → ends own false t' Done ≡ (if t' then Over else Done)
done_ends own true = refl
done_ends own false = refl

open_ends : (own k' t' : Bool) → ends own k' t' Open ≡ (if t' then Over else if k' then Done else Open)
open_ends own true true = refl
open_ends own true false = refl
open_ends own false true = refl
open_ends own false false = refl

fresh_ends : (own t' : Bool) → (own ≡ true → t' ≡ false) → ends own false t' Fresh ≡ (if t' then Over else Fresh)
fresh_ends true true h = absurd (true≢false (h refl))
fresh_ends false true h = refl
fresh_ends own false h = refl

moved : (c : ChannelKey) (own t k o t' k' : Bool) (content : List ℕ) → Moves own t k o t' k' content → ends own (k' && not k) (t' && not t) (stage_after c (stage_by t k o) (content_frames c content)) ≡ stage_by t' k' o
moved c own true k o false k' content m = absurd (false≢true (m.more_t refl))
moved c own true true o true false content m = absurd (false≢true (m.more_k refl))
moved c own true true o true true content m = content_none c Over content (m.over refl).0
moved c own true false o true true content m = absurd (false≢true ((m.over refl).1 refl))
moved c own true false o true false content m = content_none c Over content (m.over refl).0
moved c own false true o t' false content m = absurd (false≢true (m.more_k refl))
moved c own false true o true true content m = ap (λ s. ends own false true s) (content_none c Done content (m.done refl)) ∙ done_ends own true
moved c own false true o false true content m = ap (λ s. ends own false false s) (content_none c Done content (m.done refl)) ∙ done_ends own false
moved c own false false true true k' content m = ap (λ s. ends own (k' && true) true s) (pieces_open c (pieces content)) ∙ (open_ends own (k' && true) true)
moved c own false false true false true content m = ap (λ s. ends own true false s) (pieces_open c (pieces content)) ∙ open_ends own true false
moved c own false false true false false content m = ap (λ s. ends own false false s) (pieces_open c (pieces content)) ∙ open_ends own false false
moved c own false false false t' true content m = absurd (false≢true ((m.shut refl refl).1 refl))
moved c own false false false true false content m = ap (λ s. ends own false true s) (content_none c Fresh content (m.shut refl refl).0) ∙ fresh_ends own true (m.held refl refl)
moved c own false false false false false content m = ap (λ s. ends own false false s) (content_none c Fresh content (m.shut refl refl).0) ∙ fresh_ends own false (m.held refl refl)

-- items that open nothing

shut_unoffered : (v : Version) (c : ChannelKey) (items : List Item) → is_open v c items ≡ false → c.own ≡ true → is_offered c items ≡ false
shut_unoffered v c items e own = ap (λ b. if b then is_offered c items else is_accepted v c items) (sym own) ∙ e

moves : (v : Version) (c : ChannelKey) (item : Item) (items : List Item) → Allowed v (item ∷ items) → is_open v c (item ∷ items) ≡ is_open v c items
    → Moves c.own (termination_emitted v c items) (completion_emitted v c items) (is_open v c items) (termination_emitted v c (item ∷ items)) (completion_emitted v c (item ∷ items)) (newly_emitted v c item items)
moves v c item items ok same = record {
  more_t = λ e. termination_more v c item items e ok;
  more_k = λ e. done_more v c item items ok e;
  over = λ e. let still = still_over v c item items ok e in (none_emitted v c item items still.emitted, still.completion);
  done = λ e. none_emitted v c item items (emitted_done v c item items ok e);
  shut = λ heard e. let still = still_shut v c item items ok heard (same ∙ e) in (none_emitted v c item items still.emitted, still.completion);
  held = λ heard e own. never_over v c (item ∷ items) ok (shut_unoffered v c (item ∷ items) (same ∙ e) own);
}

due_step : (v : Version) (c : ChannelKey) (item : Item) (items : List Item) → Allowed v (item ∷ items) → is_open v c (item ∷ items) ≡ is_open v c items → stage_after c (stage_at v c items) (due_on v c [] item items) ≡ stage_at v c (item ∷ items)
due_step v c item items ok same =
    due_on_ends v c (stage_at v c items) [] item items
    ∙ (moved c c.own (termination_emitted v c items) (completion_emitted v c items) (is_open v c items) (termination_emitted v c (item ∷ items)) (completion_emitted v c (item ∷ items)) (newly_emitted v c item items) (moves v c item items ok same)
    ∙ ap (λ o. stage_by (termination_emitted v c (item ∷ items)) (completion_emitted v c (item ∷ items)) o) (sym same))

-- the item that opens the channel
opens_step : (v : Version) (c : ChannelKey) (body : FrameBody) (item : Item) (items : List Item) → stage_at v c items ≡ Fresh → next_stage c.own Fresh body ≡ Open → termination_emitted v c items ≡ false → completion_emitted v c items ≡ false → is_open v c (item ∷ items) ≡ true
    → stage_after c (stage_at v c items) (due_on v c (frame_on c body ∷ []) item items) ≡ stage_at v c (item ∷ items)
opens_step v c body item items fresh to_open heard undone opened =
    let t' = termination_emitted v c (item ∷ items) in
    let k' = completion_emitted v c (item ∷ items) in
    let content = newly_emitted v c item items in
    let first : stage_after c (stage_at v c items) (frame_on c body ∷ []) ≡ Open = ap (λ s. stage_after c s (frame_on c body ∷ [])) fresh ∙ (one_on c Fresh body ∙ to_open) in
    due_on_ends v c (stage_at v c items) (frame_on c body ∷ []) item items
    ∙ (ap (λ s. ends c.own (completes v c item items) (terminates v c item items) (stage_after c s (content_frames c content))) first
    ∙ (ap (λ s. ends c.own (completes v c item items) (terminates v c item items) s) (pieces_open c (pieces content))
    ∙ (ap₂ (λ k t. ends c.own (k' && not k) (t' && not t) Open) undone heard
    ∙ (all_open c.own k' t' ∙ ap (λ o. stage_by t' k' o) (sym opened)))))
  where
    all_open : (own k' t' : Bool) → ends own (k' && true) (t' && true) Open ≡ stage_by t' k' true
    all_open own true true = refl
    all_open own true false = refl
    all_open own false true = refl
    all_open own false false = refl

-- each item in turn

abbrev Steps : Version → ChannelKey → Item → List Item → Type 0
Steps v c item items = stage_after c (stage_at v c items) (due v item items) ≡ stage_at v c (item ∷ items)

at_key : (P Q : ChannelKey → Type 0) (key c : ChannelKey) → key ≡ c → (P c → Q c) → P key → Q key
at_key P Q key c same h p = subst Q (sym same) (h (subst P same p))

else_step : (v : Version) (c : ChannelKey) (item : Item) (items : List Item) → names c item ≡ false → Steps v c item items
else_step v c item items e = due_else v c (stage_at v c items) item items e ∙ sym (stage_unnamed v c item items e)

over_same : (v : Version) (c : ChannelKey) (item : Item) (items : List Item) → is_finished v c (item ∷ items) ≡ is_finished v c items → has_terminated c (item ∷ items) ≡ has_terminated c items → is_terminated_by_peer c (item ∷ items) ≡ is_terminated_by_peer c items → is_rejected c (item ∷ items) ≡ is_rejected c items → termination_emitted v c (item ∷ items) ≡ termination_emitted v c items
over_same v c item items f h p r = by (has_terminated c (item ∷ items)) (has_terminated c items) (is_terminated_by_peer c (item ∷ items)) (is_terminated_by_peer c items) (is_rejected c (item ∷ items)) (is_rejected c items) (is_finished v c (item ∷ items)) (is_finished v c items) h p r f
  where
    by : (a a' b b' x x' y y' : Bool) → a ≡ a' → b ≡ b' → x ≡ x' → y ≡ y' → (a || b || x || y) ≡ (a' || b' || x' || y')
    by a a' b b' x x' y y' e f k l = cc

processed_stays : (own t k o : Bool) (count : ℕ) → t ≡ false → o ≡ true → next_stage own (stage_by t k o) (ContentProcessed count) ≡ stage_by t k o
processed_stays own true k o count e f = absurd (true≢false e)
processed_stays own false true o count e f = refl
processed_stays own false false true count e f = refl
processed_stays own false false false count e f = absurd (false≢true f)

read_stays : (v : Version) (c : ChannelKey) (count : ℕ) (items : List Item) → Allowed v items → stage_after c (stage_at v c items) (acknowledgement v c count items) ≡ stage_at v c items
read_stays v c count items ok = by (is_one v) (count == 0) (is_running items && is_live v c items) (λ live.
    let both = and_parts (not (termination_emitted v c items)) (is_accepted v c items) (and_parts (is_running items) (is_live v c items) live).1 in
    processed_stays c.own (termination_emitted v c items) (completion_emitted v c items) (is_open v c items) count (not-true (termination_emitted v c items) both.0) (accepted_is_open v c items ok both.1))
  where
    by : (one none live : Bool) → (live ≡ true → next_stage c.own (stage_at v c items) (ContentProcessed count) ≡ stage_at v c items)
        → stage_after c (stage_at v c items) (if one then [] else if none then [] else if live then frame_on c (ContentProcessed count) ∷ [] else []) ≡ stage_at v c items
    by true none live h = refl
    by false true live h = refl
    by false false true h = one_on c (stage_at v c items) (ContentProcessed count) ∙ h refl
    by false false false h = refl

pub accepted_before : (c : ChannelKey) (items : List Item) → is_accepted_in c (before_cut c items) ≡ true → is_accepted_in c items ≡ true
accepted_before c [] e = e
accepted_before c (item ∷ items) e = elim (before_cut_cases c item items) [
  | inl s ↦ accepted_in_more c item items (accepted_before c items (sym (ap (is_accepted_in c) s) ∙ e))
  | inr s ↦ sym (ap (is_accepted_in c) s.0) ∙ e
]

-- no completion was sent before the channel is open
pub undone_shut : (v : Version) (c : ChannelKey) (items : List Item) → Allowed v items → termination_emitted v c items ≡ false → is_open v c items ≡ false → completion_emitted v c items ≡ false
undone_shut v c items ok heard shut = false_from_ne_true (completion_emitted v c items) (λ done.
    let among = accepted_before c items (completion_in_all v c (before_cut c items) done).0 in
    false≢true (sym shut ∙ accepted_is_open v c items ok (sym (accepted_heard v c items ok heard) ∙ among)))

offer_step : (v : Version) (c : ChannelKey) (name : List ℕ) (size : ℕ) (items : List Item) → Allowed v (DidOffer c name size ∷ items) → Steps v c (DidOffer c name size) items
offer_step v c name size items ok =
    let first = offered_first v c name size items ok in
    let own = first.0 in
    let new = first.1 in
    opens_step v c (Offer name (written_window v size)) (DidOffer c name size) items (never_stage v c items ok.2 new) (ap (λ o. next_stage o Fresh (Offer name (written_window v size))) own) (never_over v c items ok.2 new) (never_done v c items ok.2 new)
    (open_offered v c (DidOffer c name size ∷ items) (ap (λ b. if b then true else is_offered c items) (same_key_refl c)) own)

accept_step : (v : Version) (c : ChannelKey) (size : ℕ) (items : List Item) → Allowed v (DidAccept c size ∷ items) → Steps v c (DidAccept c size) items
accept_step v c size items ok =
    let permits = accept_permits v c size items ok.0 in
    let own = permits.peer in
    let heard = permits.heard in
    let shut : is_open v c items ≡ false = ap (λ b. if b then is_offered c items else is_accepted v c items) own ∙ permits.first in
    let undone = undone_shut v c items ok.1 heard shut in
    opens_step v c (OfferAccepted (written_window v size)) (DidAccept c size) items (fresh (termination_emitted v c items) (completion_emitted v c items) (is_open v c items) heard undone shut) (ap (λ o. next_stage o Fresh (OfferAccepted (written_window v size))) own) heard undone
    (open_accepted v c (DidAccept c size ∷ items) (ap (λ b. if b then true else is_accepted v c items) (same_key_refl c)) own)
  where
    fresh : (t k o : Bool) → t ≡ false → k ≡ false → o ≡ false → stage_by t k o ≡ Fresh
    fresh t k o e f g = rw (e, f, g) refl

open_same : (v : Version) (c : ChannelKey) (item : Item) (items : List Item) (own : Bool) → c.own ≡ own → (if own then is_offered c (item ∷ items) else is_accepted v c (item ∷ items)) ≡ (if own then is_offered c items else is_accepted v c items) → is_open v c (item ∷ items) ≡ is_open v c items
open_same v c item items own e h = ap (λ b. if b then is_offered c (item ∷ items) else is_accepted v c (item ∷ items)) e ∙ (h ∙ sym (ap (λ b. if b then is_offered c items else is_accepted v c items) e))

got_opens : (v : Version) (place : ℕ) (c : ChannelKey) (body : FrameBody) (items : List Item) → Allowed v (Got place c body ∷ items) → is_open v c (Got place c body ∷ items) ≡ is_open v c items
got_opens v place c (Offer name size) items ok = open_same v c (Got place c (Offer name size)) items false (heard_first v c name size items ok.0.unrefused).0 refl
got_opens v place c (OfferAccepted size) items ok = elim (cases_Bool c.own) [
  | inl own ↦ open_same v c (Got place c (OfferAccepted size)) items true own refl
  | inr own ↦ elim (cases_Bool (termination_emitted v c items)) [
    | inl over ↦ open_same v c (Got place c (OfferAccepted size)) items false own (unheeded_over (same_key c c) (termination_emitted v c items) (is_accepted v c items) over)
    | inr heard ↦ absurd (true≢false (sym (acceptance_permits v c size items ok.0.unrefused heard) ∙ own))
  ]
]
got_opens v place c (Content bytes) items ok = refl
got_opens v place c ContentWritingCompleted items ok = refl
got_opens v place c ChannelTerminated items ok = refl
got_opens v place c (ContentProcessed count) items ok = refl

rejected_step : (v : Version) (place : ℕ) (c : ChannelKey) (body : FrameBody) (items : List Item) → Allowed v (Rejected place c body ∷ items) → Steps v c (Rejected place c body) items
rejected_step v place c body items ok =
    let peer = rejected_first v c body items ok.0.unrefused ok.1 in
    let now = rejected_over v c place c body items (same_key_refl c) in
    ap (λ s. stage_after c s (frame_on c ChannelTerminated ∷ [])) (never_stage v c items ok.2 peer.1)
    ∙ (one_on c Fresh ChannelTerminated ∙ (ap (λ o. next_stage o Fresh ChannelTerminated) peer.0
    ∙ sym (ap (λ t. stage_by t (completion_emitted v c (Rejected place c body ∷ items)) (is_open v c (Rejected place c body ∷ items))) now)))

step : (v : Version) (c : ChannelKey) (item : Item) (items : List Item) → Allowed v (item ∷ items) → Steps v c item items
step v c (Hello party) items ok =
    sym (stage_same v c (Hello party) items (over_same v c (Hello party) items (finished_same v c (Hello party) items refl) refl refl refl) (completion_same v c (Hello party) items refl) refl)
step v c (End cause) items ok = sym (stage_same v c (End cause) items refl refl refl)
step v c (DidOffer key name size) items ok = elim (key_cases key c) [
  | inl same ↦ at_key (λ k. Allowed v (DidOffer k name size ∷ items)) (λ k. Steps v c (DidOffer k name size) items) key c same (offer_step v c name size items) ok
  | inr differ ↦ else_step v c (DidOffer key name size) items differ
]
step v c (DidAccept key size) items ok = elim (key_cases key c) [
  | inl same ↦ at_key (λ k. Allowed v (DidAccept k size ∷ items)) (λ k. Steps v c (DidAccept k size) items) key c same (accept_step v c size items) ok
  | inr differ ↦ else_step v c (DidAccept key size) items differ
]
step v c (DidWrite key bytes) items ok = elim (key_cases key c) [
  | inl same ↦ at_key (λ k. Allowed v (DidWrite k bytes ∷ items)) (λ k. Steps v c (DidWrite k bytes) items) key c same (λ ok. due_step v c (DidWrite c bytes) items ok refl) ok
  | inr differ ↦ else_step v c (DidWrite key bytes) items differ
]
step v c (DidRead key max) items ok = elim (key_cases key c) [
  | inl same ↦ at_key (λ k. Allowed v (DidRead k max ∷ items)) (λ k. Steps v c (DidRead k max) items) key c same
      (λ ok. read_stays v c (min max (length (unread v c items))) items ok.1
      ∙ sym (stage_same v c (DidRead c max) items (over_same v c (DidRead c max) items (finished_same v c (DidRead c max) items refl) refl refl refl) (completion_same v c (DidRead c max) items refl) refl)) ok
  | inr differ ↦ else_step v c (DidRead key max) items differ
]
step v c (DidComplete key) items ok = elim (key_cases key c) [
  | inl same ↦ at_key (λ k. Allowed v (DidComplete k ∷ items)) (λ k. Steps v c (DidComplete k) items) key c same (λ ok. due_step v c (DidComplete c) items ok refl) ok
  | inr differ ↦ else_step v c (DidComplete key) items differ
]
step v c (DidTerminate key) items ok = elim (key_cases key c) [
  | inl same ↦ at_key (λ k. Allowed v (DidTerminate k ∷ items)) (λ k. Steps v c (DidTerminate k) items) key c same (λ ok. due_step v c (DidTerminate c) items ok refl) ok
  | inr differ ↦ else_step v c (DidTerminate key) items differ
]
step v c (Got place key body) items ok = elim (key_cases key c) [
  | inl same ↦ at_key (λ k. Allowed v (Got place k body ∷ items)) (λ k. Steps v c (Got place k body) items) key c same (λ ok. due_step v c (Got place c body) items ok (got_opens v place c body items ok)) ok
  | inr differ ↦ else_step v c (Got place key body) items differ
]
step v c (Rejected place key body) items ok = elim (key_cases key c) [
  | inl same ↦ at_key (λ k. Allowed v (Rejected place k body ∷ items)) (λ k. Steps v c (Rejected place k body) items) key c same (rejected_step v place c body items) ok
  | inr differ ↦ else_step v c (Rejected place key body) items differ
]

-- all frames that an end sent on a channel lead where its items leave it
pub sent_stage : (v : Version) (c : ChannelKey) (items : List Item) → Allowed v items → stage_after c Fresh (sent v items) ≡ stage_at v c items
sent_stage v c [] ok = sym (never_stage v c [] ok refl)
sent_stage v c (item ∷ items) ok =
    stage_after-append c Fresh (sent v items) (due v item items) ∙ (ap (λ s. stage_after c s (due v item items)) (sent_stage v c items (allowed_tail v item items ok)) ∙ step v c item items ok)

-- What was sent on a channel is the emitted front of what was written.
use Rattle.std.specs.Prelude.{ℕ, zero, suc, ◌+◌, min, ◌≤◌, List, [], ◌∷◌, ◌++◌, length, take, drop, map, Bool, true, false, ◌==◌, ◌&&◌, if◌then◌else◌}
use Rattle.std.proofs.Common.{◌≡◌, ◌⊎◌, inl, inr, refl, sym, ◌∙◌, ap, arith, length-append, length-take, length-drop}
use Rattle.std.proofs.lemmas.Bool.{cases_Bool, true≢false}
use Rattle.std.proofs.lemmas.List.{append-nil, take-append-le, take-append-drop, take-take, drop_all}
use Rattle.std.proofs.lemmas.List.Concat.{flat_map-append}
use Rattle.wire_base.specs.declared.frame.Version.{Version}
use Rattle.mux_items.specs.declared.channel.ChannelKey.{ChannelKey}
use Rattle.mux_items.specs.Bodies.{FrameBody, Offer, OfferAccepted, Content, ContentWritingCompleted, ChannelTerminated, ContentProcessed, ChannelFrame, frame_on, same_key, is_one, window_of}
use Rattle.mux_items.specs.Items.{Item, Hello, DidOffer, DidAccept, DidWrite, DidRead, DidComplete, DidTerminate, Got, Rejected, End, names, is_running}
use Rattle.mux_items.specs.Lists.{written, is_cut, before_cut, is_accepted_in, granted_in, within_grant, emitted_in, emitted, is_live, unread}
use Rattle.mux_items.specs.Limits.{piece_size}
use Rattle.mux_items.specs.Due.{pieces_in, pieces, content_frames, span, newly_emitted, completes, terminates, due_on, written_window, acknowledgement, due, sent, content_of, content_on, contents}
use Rattle.mux_items.proofs.Keys.{same_key_true}

pub contents-append : (c : ChannelKey) (fs gs : List ChannelFrame) → contents c (fs ++ gs) ≡ contents c fs ++ contents c gs
contents-append c fs gs = flat_map-append (content_on c) fs gs

-- what an item adds to the written bytes
pub written_more : (c : ChannelKey) (item : Item) (items : List Item) → (bytes : List ℕ) × (written c (item ∷ items) ≡ written c items ++ bytes)
written_more c (DidWrite key bytes) items = elim (cases_Bool (same_key key c)) [
  | inl e ↦ (bytes, rw e refl)
  | inr e ↦ ([], rw e (sym (append-nil (written c items))))
]
written_more c item items = ([], sym (append-nil (written c items)))

pub written_grows : (c : ChannelKey) (item : Item) (items : List Item) → length (written c items) ≤ length (written c (item ∷ items))
written_grows c item items =
    let w = written_more c item items in
    omega (arith, ap length w.1, length-append (written c items) w.0)

pub if_or : (b x : Bool) → x ≡ true → (if b then true else x) ≡ true
if_or true x e = refl
if_or false x e = e

pub if_false : (b x : Bool) → (if b then true else x) ≡ false → (b ≡ false) × (x ≡ false)
if_false true x e = absurd (true≢false e)
if_false false x e = (refl, e)

pub if_plus : (b : Bool) (m n : ℕ) → n ≤ (if b then n + m else n)
if_plus true m n = omega arith
if_plus false m n = omega arith

pub accepted_in_more : (c : ChannelKey) (item : Item) (items : List Item) → is_accepted_in c items ≡ true → is_accepted_in c (item ∷ items) ≡ true
accepted_in_more c (DidAccept key size) items e = if_or (same_key key c) (is_accepted_in c items) e
accepted_in_more c (Got place key (OfferAccepted size)) items e = if_or (same_key key c) (is_accepted_in c items) e
accepted_in_more c item items e = e

pub granted_in_more : (c : ChannelKey) (item : Item) (items : List Item) → granted_in c items ≤ granted_in c (item ∷ items)
granted_in_more c (Got place key (Offer name size)) items = if_plus (same_key key c) (window_of size) (granted_in c items)
granted_in_more c (Got place key (OfferAccepted size)) items = if_plus (same_key key c) (window_of size) (granted_in c items)
granted_in_more c (Got place key (ContentProcessed count)) items = if_plus (same_key key c) count (granted_in c items)
granted_in_more c item items = omega arith

pub within_grant_more : (v : Version) (granted granted' count count' : ℕ) → granted ≤ granted' → count ≤ count' → within_grant v granted count ≤ within_grant v granted' count'
within_grant_more v granted granted' count count' g n = elim (cases_Bool (is_one v)) [
  | inl e ↦ rw e n
  | inr e ↦ rw e (omega arith)
]

pub emitted_in_more : (v : Version) (c : ChannelKey) (item : Item) (items : List Item) → emitted_in v c items ≤ emitted_in v c (item ∷ items)
emitted_in_more v c item items = elim (cases_Bool (is_accepted_in c items)) [
  | inl e ↦ rw (accepted_in_more c item items e, e) (within_grant_more v (granted_in c items) (granted_in c (item ∷ items)) (length (written c items)) (length (written c (item ∷ items))) (granted_in_more c item items) (written_grows c item items))
  | inr e ↦ rw e (omega arith)
]

-- without a cut the list itself is its longest prefix without one
pub no_cut : (c : ChannelKey) (items : List Item) → is_cut c items ≡ false → before_cut c items ≡ items
no_cut c [] e = refl
no_cut c (item ∷ items) e = rw e refl

pub cut_there : (c : ChannelKey) (item : Item) (items : List Item) → is_cut c (item ∷ items) ≡ true → before_cut c (item ∷ items) ≡ before_cut c items
cut_there c item items e = rw e refl

pub no_cut_before : (c : ChannelKey) (item : Item) (items : List Item) → is_cut c (item ∷ items) ≡ false → is_cut c items ≡ false
no_cut_before c (DidTerminate key) items e = (if_false (same_key key c) (is_cut c items) e).1
no_cut_before c (Got place key ChannelTerminated) items e = (if_false (same_key key c) (is_cut c items) e).1
no_cut_before c (End cause) items e = absurd (true≢false e)
no_cut_before c item items e = e

-- a newer item either adds nothing before the cut, or there is no cut
pub before_cut_cases : (c : ChannelKey) (item : Item) (items : List Item) → (before_cut c (item ∷ items) ≡ before_cut c items) ⊎ ((before_cut c (item ∷ items) ≡ item ∷ items) × (before_cut c items ≡ items))
before_cut_cases c item items = elim (cases_Bool (is_cut c (item ∷ items))) [
  | inl e ↦ inl (rw e refl)
  | inr e ↦ inr (rw e refl, no_cut c items (no_cut_before c item items e))
]

pub emitted_more : (v : Version) (c : ChannelKey) (item : Item) (items : List Item) → emitted v c items ≤ emitted v c (item ∷ items)
emitted_more v c item items = elim (before_cut_cases c item items) [
  | inl e ↦ omega (arith, ap (emitted_in v c) e)
  | inr e ↦ omega (arith, ap (emitted_in v c) e.0, ap (emitted_in v c) e.1, emitted_in_more v c item items)
]

written_before : (c : ChannelKey) (items : List Item) → length (written c (before_cut c items)) ≤ length (written c items)
written_before c [] = omega arith
written_before c (item ∷ items) = elim (before_cut_cases c item items) [
  | inl e ↦ omega (arith, ap (λ xs. length (written c xs)) e, written_before c items, written_grows c item items)
  | inr e ↦ omega (arith, ap (λ xs. length (written c xs)) e.0)
]

pub emitted_in_bound : (v : Version) (c : ChannelKey) (items : List Item) → emitted_in v c items ≤ length (written c items)
emitted_in_bound v c items = elim (cases_Bool (is_accepted_in c items)) [
  | inl e ↦ elim (cases_Bool (is_one v)) [ inl f ↦ rw (e, f) (omega arith) | inr f ↦ rw (e, f) (omega arith) ]
  | inr e ↦ rw e (omega arith)
]

pub emitted_bound : (v : Version) (c : ChannelKey) (items : List Item) → emitted v c items ≤ length (written c items)
emitted_bound v c items = omega (arith, emitted_in_bound v c (before_cut c items), written_before c items)

-- an item that doesn't name the channel changes nothing
pub written_unnamed : (c : ChannelKey) (item : Item) (items : List Item) → names c item ≡ false → written c (item ∷ items) ≡ written c items
written_unnamed c (DidWrite key bytes) items e = rw e refl
written_unnamed c item items e = refl

pub accepted_in_unnamed : (c : ChannelKey) (item : Item) (items : List Item) → names c item ≡ false → is_accepted_in c (item ∷ items) ≡ is_accepted_in c items
accepted_in_unnamed c (DidAccept key size) items e = rw e refl
accepted_in_unnamed c (Got place key (OfferAccepted size)) items e = rw e refl
accepted_in_unnamed c item items e = refl

pub granted_in_unnamed : (c : ChannelKey) (item : Item) (items : List Item) → names c item ≡ false → granted_in c (item ∷ items) ≡ granted_in c items
granted_in_unnamed c (Got place key (Offer name size)) items e = rw e refl
granted_in_unnamed c (Got place key (OfferAccepted size)) items e = rw e refl
granted_in_unnamed c (Got place key (ContentProcessed count)) items e = rw e refl
granted_in_unnamed c item items e = refl

pub emitted_in_unnamed : (v : Version) (c : ChannelKey) (item : Item) (items : List Item) → names c item ≡ false → emitted_in v c (item ∷ items) ≡ emitted_in v c items
emitted_in_unnamed v c item items e = rw (accepted_in_unnamed c item items e, granted_in_unnamed c item items e, written_unnamed c item items e) refl

pub cut_unnamed : (c : ChannelKey) (item : Item) (items : List Item) → names c item ≡ false → is_cut c (item ∷ items) ≡ is_cut c items
cut_unnamed c (DidTerminate key) items e = rw e refl
cut_unnamed c (Got place key ChannelTerminated) items e = rw e refl
cut_unnamed c (End cause) items e = absurd (true≢false e)
cut_unnamed c item items e = refl

-- an item that leaves what is read from the list before the cut
pub before_same : {A : Type 0} (c : ChannelKey) (f : List Item → A) (item : Item) (items : List Item) → f (item ∷ items) ≡ f items → f (before_cut c (item ∷ items)) ≡ f (before_cut c items)
before_same c f item items same = elim (before_cut_cases c item items) [
  | inl e ↦ ap f e
  | inr e ↦ ap f e.0 ∙ (same ∙ sym (ap f e.1))
]

pub emitted_same : (v : Version) (c : ChannelKey) (item : Item) (items : List Item) → emitted_in v c (item ∷ items) ≡ emitted_in v c items → emitted v c (item ∷ items) ≡ emitted v c items
emitted_same v c item items same = before_same c (emitted_in v c) item items same

pub emitted_unnamed : (v : Version) (c : ChannelKey) (item : Item) (items : List Item) → names c item ≡ false → emitted v c (item ∷ items) ≡ emitted v c items
emitted_unnamed v c item items e = emitted_same v c item items (emitted_in_unnamed v c item items e)

-- the pieces of some bytes, put together, are these bytes
pieces-whole : (c d : ChannelKey) (turns : ℕ) (bytes : List ℕ) → length bytes ≤ turns → same_key d c ≡ true → contents c (map (λ piece. frame_on d (Content piece)) (pieces_in turns bytes)) ≡ bytes
pieces-whole c d zero [] le e = refl
pieces-whole c d zero (byte ∷ bytes) le e = absurd (omega arith)
pieces-whole c d (suc turns) [] le e = refl
pieces-whole c d (suc turns) (byte ∷ bytes) le e =
    let rest : length (drop piece_size (byte ∷ bytes)) ≤ turns = omega (arith, length-drop piece_size (byte ∷ bytes)) in
    rw (e, pieces-whole c d turns (drop piece_size (byte ∷ bytes)) rest e) (take-append-drop piece_size (byte ∷ bytes))

pub contents_of_frames : (c d : ChannelKey) (bytes : List ℕ) → same_key d c ≡ true → contents c (content_frames d bytes) ≡ bytes
contents_of_frames c d bytes e = pieces-whole c d (length bytes) bytes (omega arith) e

pieces-other : (c d : ChannelKey) (bodies : List (List ℕ)) → same_key d c ≡ false → contents c (map (λ piece. frame_on d (Content piece)) bodies) ≡ []
pieces-other c d [] e = refl
pieces-other c d (body ∷ bodies) e = rw (e, pieces-other c d bodies e) refl

pub contents_of_other_frames : (c d : ChannelKey) (bytes : List ℕ) → same_key d c ≡ false → contents c (content_frames d bytes) ≡ []
contents_of_other_frames c d bytes e = pieces-other c d (pieces bytes) e

take-span : (m n : ℕ) (bytes : List ℕ) → m ≤ n → take m bytes ++ span m n bytes ≡ take n bytes
take-span m n bytes le = ap (λ bs. bs ++ drop m (take n bytes)) (sym (take-take m n bytes le)) ∙ take-append-drop m (take n bytes)

pub span_none : (n m : ℕ) (bytes : List ℕ) → m ≡ n → span n m bytes ≡ []
span_none n m bytes e = ap (λ k. drop n (take k bytes)) e ∙ drop_all n (take n bytes) (omega (arith, length-take n bytes))

front_more : (c : ChannelKey) (m : ℕ) (item : Item) (items : List Item) → m ≤ length (written c items) → take m (written c items) ≡ take m (written c (item ∷ items))
front_more c m item items small =
    let w = written_more c item items in
    sym (ap (take m) w.1 ∙ take-append-le m (written c items) w.0 small)

-- a frame without content, or none
no_content : (c : ChannelKey) (b : Bool) (f : ChannelFrame) → content_on c f ≡ [] → contents c (if b then f ∷ [] else []) ≡ []
no_content c true f e = ap (λ bs. bs ++ []) e
no_content c false f e = refl

pub no_body_content : (c key : ChannelKey) (body : FrameBody) → content_of body ≡ [] → content_on c (frame_on key body) ≡ []
no_body_content c key body e = elim (cases_Bool (same_key key c)) [
  | inl f ↦ rw f e
  | inr f ↦ rw f refl
]

due_on_contents : (v : Version) (c d : ChannelKey) (first : List ChannelFrame) (item : Item) (items : List Item) → contents c first ≡ []
    → contents c (due_on v d first item items) ≡ contents c (content_frames d (newly_emitted v d item items))
due_on_contents v c d first item items none =
    let f = content_frames d (newly_emitted v d item items) in
    let a : List ChannelFrame = if completes v d item items then frame_on d ContentWritingCompleted ∷ [] else [] in
    let b : List ChannelFrame = if terminates v d item items then frame_on d ChannelTerminated ∷ [] else [] in
    contents-append c (first ++ f ++ a) b ∙ (ap (λ bs. contents c (first ++ f ++ a) ++ bs) (no_content c (terminates v d item items) (frame_on d ChannelTerminated) (no_body_content c d ChannelTerminated refl)) ∙ (append-nil (contents c (first ++ f ++ a))
    ∙ (contents-append c (first ++ f) a ∙ (ap (λ bs. contents c (first ++ f) ++ bs) (no_content c (completes v d item items) (frame_on d ContentWritingCompleted) (no_body_content c d ContentWritingCompleted refl)) ∙ (append-nil (contents c (first ++ f))
    ∙ (contents-append c first f ∙ ap (λ bs. bs ++ contents c f) none))))))

due_on_span : (v : Version) (c d : ChannelKey) (first : List ChannelFrame) (item : Item) (items : List Item) → contents c first ≡ [] → names c item ≡ same_key d c
    → contents c (due_on v d first item items) ≡ newly_emitted v c item items
due_on_span v c d first item items none named = due_on_contents v c d first item items none ∙ elim (cases_Bool (same_key d c)) [
  | inl same ↦ contents_of_frames c d (newly_emitted v d item items) same ∙ ap (λ k. newly_emitted v k item items) (same_key_true d c same)
  | inr differ ↦ contents_of_other_frames c d (newly_emitted v d item items) differ ∙ sym (span_none (emitted v c items) (emitted v c (item ∷ items)) (written c (item ∷ items)) (emitted_unnamed v c item items (named ∙ differ)))
]

one_frame : (c key : ChannelKey) (body : FrameBody) → content_of body ≡ [] → contents c (frame_on key body ∷ []) ≡ []
one_frame c key body e = ap (λ bs. bs ++ []) (no_body_content c key body e)

-- an item that makes no content frames emits nothing
quiet_span : (v : Version) (c : ChannelKey) (item : Item) (items : List Item) (frames : List ChannelFrame) → contents c frames ≡ [] → emitted_in v c (item ∷ items) ≡ emitted_in v c items → contents c frames ≡ newly_emitted v c item items
quiet_span v c item items frames none same = none ∙ sym (span_none (emitted v c items) (emitted v c (item ∷ items)) (written c (item ∷ items)) (emitted_same v c item items same))

no_frame_of_three : (c : ChannelKey) (one none live : Bool) (f : ChannelFrame) → content_on c f ≡ [] → contents c (if one then [] else if none then [] else if live then f ∷ [] else []) ≡ []
no_frame_of_three c true none live f e = refl
no_frame_of_three c false true live f e = refl
no_frame_of_three c false false live f e = no_content c live f e

acknowledgement_contents : (v : Version) (c key : ChannelKey) (count : ℕ) (items : List Item) → contents c (acknowledgement v key count items) ≡ []
acknowledgement_contents v c key count items = no_frame_of_three c (is_one v) (count == 0) (is_running items && is_live v key items) (frame_on key (ContentProcessed count)) (no_body_content c key (ContentProcessed count) refl)

-- the content of what is due is what becomes emitted
pub due_span : (v : Version) (c : ChannelKey) (item : Item) (items : List Item) → contents c (due v item items) ≡ newly_emitted v c item items
due_span v c (Hello party) items = quiet_span v c (Hello party) items [] refl refl
due_span v c (DidOffer key name size) items = due_on_span v c key (frame_on key (Offer name (written_window v size)) ∷ []) (DidOffer key name size) items (one_frame c key (Offer name (written_window v size)) refl) refl
due_span v c (DidAccept key size) items = due_on_span v c key (frame_on key (OfferAccepted (written_window v size)) ∷ []) (DidAccept key size) items (one_frame c key (OfferAccepted (written_window v size)) refl) refl
due_span v c (DidWrite key bytes) items = due_on_span v c key [] (DidWrite key bytes) items refl refl
due_span v c (DidRead key max) items = quiet_span v c (DidRead key max) items (due v (DidRead key max) items) (acknowledgement_contents v c key (min max (length (unread v key items))) items) refl
due_span v c (DidComplete key) items = due_on_span v c key [] (DidComplete key) items refl refl
due_span v c (DidTerminate key) items = due_on_span v c key [] (DidTerminate key) items refl refl
due_span v c (Got place key body) items = due_on_span v c key [] (Got place key body) items refl refl
due_span v c (Rejected place key body) items = quiet_span v c (Rejected place key body) items (frame_on key ChannelTerminated ∷ []) (one_frame c key ChannelTerminated refl) refl
due_span v c (End cause) items = quiet_span v c (End cause) items [] refl refl

pub sent_front : (v : Version) (c : ChannelKey) (items : List Item) → contents c (sent v items) ≡ take (emitted v c items) (written c items)
sent_front v c [] = refl
sent_front v c (item ∷ items) =
    contents-append c (sent v items) (due v item items)
    ∙ (ap (λ bs. bs ++ contents c (due v item items)) (sent_front v c items ∙ front_more c (emitted v c items) item items (emitted_bound v c items))
    ∙ (ap (λ bs. take (emitted v c items) (written c (item ∷ items)) ++ bs) (due_span v c item items)
    ∙ take-span (emitted v c items) (emitted v c (item ∷ items)) (written c (item ∷ items)) (emitted_more v c item items)))

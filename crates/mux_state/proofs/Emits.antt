-- One frame at a time sends all that is due.
use Rattle.std.specs.Prelude.{ℕ, zero, suc, ◌+◌, ◌-◌, min, ◌<◌, ◌≤◌, List, [], ◌∷◌, ◌++◌, length, take, drop, map, Bool, true, false, not, ◌&&◌, ◌||◌, ◌==◌, nat_lt, if◌then◌else◌}
use Rattle.std.proofs.Common.{◌≡◌, inl, inr, refl, sym, ◌∙◌, ap, arith, length-drop, length-take}
use Rattle.std.proofs.lemmas.Bool.{cases_Bool, true≢false, false≢true, ltb-true, ltb-false, and_parts, not-true, cond_both}
use Rattle.std.proofs.lemmas.Bool.Decides.{nat_tests}
use Rattle.std.proofs.lemmas.List.{drop-drop}
use native.Mathlib.Numerals.{unary_clauses}
use Rattle.mux_items.specs.declared.channel.ChannelKey.{ChannelKey}
use Rattle.mux_items.specs.Bodies.{Content, ContentWritingCompleted, ChannelTerminated, ChannelFrame, frame_on, is_one}
use Rattle.mux_items.specs.Limits.{piece_size}
use Rattle.mux_items.specs.Due.{pieces_in, pieces, content_frames}
use Rattle.mux_state.specs.declared.due.Due.{Due}
use Rattle.mux_state.specs.declared.due.Due.TheVariants as kind
use Rattle.mux_state.specs.State.{ChannelState}
use Rattle.mux_state.specs.Next.{sendable, goes_whole, is_done, settled_open, settled, frames_due}
use Rattle.mux_state.specs.Emitting.{due_of, piece_sent, sent_state, sent_frames}
use Rattle.mux_state.proofs.Fields.{same_state}
use Rattle.mux_state.proofs.Open.{spare}

-- more turns than bytes change nothing
pieces_enough : (m n : ℕ) (bytes : List ℕ) → length bytes ≤ m → length bytes ≤ n → pieces_in m bytes ≡ pieces_in n bytes
pieces_enough zero zero bytes a b = refl
pieces_enough zero (suc n) [] a b = refl
pieces_enough zero (suc n) (x ∷ xs) a b = absurd (omega arith)
pieces_enough (suc m) zero [] a b = refl
pieces_enough (suc m) zero (x ∷ xs) a b = absurd (omega arith)
pieces_enough (suc m) (suc n) [] a b = refl
pieces_enough (suc m) (suc n) (x ∷ xs) a b =
    ap (λ ps. take piece_size (x ∷ xs) ∷ ps)
    (pieces_enough m n (drop piece_size (x ∷ xs)) (simp length-drop (omega arith)) (simp length-drop (omega arith)))

pieces_more : (bytes : List ℕ) → 0 < length bytes → pieces bytes ≡ take piece_size bytes ∷ pieces (drop piece_size bytes)
pieces_more [] a = absurd (omega arith)
pieces_more (x ∷ xs) a =
    ap (λ ps. take piece_size (x ∷ xs) ∷ ps)
    (pieces_enough (length xs) (length (drop piece_size (x ∷ xs))) (drop piece_size (x ∷ xs)) (simp length-drop (omega arith)) (omega arith))

pub content_more : (c : ChannelKey) (bytes : List ℕ) → 0 < length bytes → content_frames c bytes ≡ frame_on c (Content (take piece_size bytes)) ∷ content_frames c (drop piece_size bytes)
content_more c bytes a = ap (λ ps. map (λ piece. frame_on c (Content piece)) ps) (pieces_more bytes a)

-- after a piece so much less may go
spare_less : (one accepted : Bool) (allowed sent left n : ℕ) → n ≤ spare one accepted allowed sent left → spare one accepted allowed (sent + n) (left - n) ≡ spare one accepted allowed sent left - n
spare_less one false allowed sent left n le = omega arith
spare_less true true allowed sent left n le = omega arith
spare_less false true allowed sent left n le = omega arith

spare_bound : (one accepted : Bool) (allowed sent left : ℕ) → spare one accepted allowed sent left ≤ left
spare_bound one false allowed sent left = omega arith
spare_bound true true allowed sent left = omega arith
spare_bound false true allowed sent left = omega arith

pub sendable_bound : (s : ChannelState) → sendable s ≤ length s.pending
sendable_bound s = spare_bound (is_one s.version) s.accepted s.granted s.emitted (length s.pending)

sendable_less : (s : ChannelState) (n : ℕ) → n ≤ sendable s → sendable (piece_sent n s) ≡ sendable s - n
sendable_less s n le =
    ap (λ l. spare (is_one s.version) s.accepted s.granted (s.emitted + n) l) (length-drop n s.pending)
    ∙ spare_less (is_one s.version) s.accepted s.granted s.emitted (length s.pending) n le

whole_less : (n more left : ℕ) → n ≤ more → more ≤ left → ((left - n) == (more - n)) ≡ (left == more)
whole_less n more left a b = grind (arith, nat_tests)

done_less : (s : ChannelState) (n : ℕ) → n ≤ sendable s → is_done (piece_sent n s) ≡ is_done s
done_less s n le =
    (λ i. s.completion_sent || (s.accepted && s.completing && (length-drop n s.pending i == sendable_less s n le i)))
    ∙ ap (λ b. s.completion_sent || (s.accepted && s.completing && b)) (whole_less n (sendable s) (length s.pending) le (sendable_bound s))

piece_settles : (s : ChannelState) (n : ℕ) → n ≤ sendable s → settled_open (piece_sent n s) ≡ settled_open s
piece_settles s n le =
    let less = sendable_less s n le in
    let done = done_less s n le in
    same_state (settled_open (piece_sent n s)) (settled_open s) refl refl refl refl refl
    (drop-drop (sendable (piece_sent n s)) n s.pending ∙ ap (λ k. drop k s.pending) (omega (arith, less, le)))
    (omega (arith, less, le)) refl done refl refl refl refl refl refl (ap (λ b. b && s.completed) done) refl

abbrev open_frames : ChannelKey → ChannelState → List ChannelFrame
open_frames c s =
    content_frames c (take (sendable s) s.pending)
    ++ (if is_done s && not s.completion_sent then frame_on c ContentWritingCompleted ∷ [] else [])
    ++ (if is_done s && s.completed then frame_on c ChannelTerminated ∷ [] else [])

take_piece : (n m : ℕ) (bytes : List ℕ) → take piece_size (take n bytes) ≡ take (min piece_size n) bytes
take_piece n m bytes = takes piece_size n bytes
  where
    takes : (k n : ℕ) (bytes : List ℕ) → take k (take n bytes) ≡ take (min k n) bytes
    takes zero n bytes = simp unary_clauses refl
    takes (suc k) zero bytes = simp unary_clauses refl
    takes (suc k) (suc n) [] = simp unary_clauses refl
    takes (suc k) (suc n) (x ∷ xs) = simp unary_clauses (ap (λ l. x ∷ l) (takes k n xs))

ends : (a b : ℕ) → [] ≡ take a (drop {A = ℕ} b [])
ends zero b = refl
ends (suc a) zero = refl
ends (suc a) (suc b) = refl

drop_piece : (n : ℕ) (bytes : List ℕ) → drop piece_size (take n bytes) ≡ take (n - min piece_size n) (drop (min piece_size n) bytes)
drop_piece n bytes = drops piece_size n bytes
  where
    drops : (k n : ℕ) (bytes : List ℕ) → drop k (take n bytes) ≡ take (n - min k n) (drop (min k n) bytes)
    drops zero n bytes = simp unary_clauses refl
    drops (suc k) zero bytes = simp unary_clauses refl
    drops (suc k) (suc n) [] = ends (suc n - min (suc k) (suc n)) (min (suc k) (suc n))
    drops (suc k) (suc n) (x ∷ xs) = simp unary_clauses (drops k n xs)

-- the frames of what is left follow
piece_frames : (c : ChannelKey) (s : ChannelState) → 0 < sendable s → open_frames c s ≡ frame_on c (Content (take (min piece_size (sendable s)) s.pending)) ∷ open_frames c (piece_sent (min piece_size (sendable s)) s)
piece_frames c s some =
    let n = min piece_size (sendable s) in
    let bytes = take (sendable s) s.pending in
    let le : n ≤ sendable s = omega arith in
    let done = done_less s n le in
    let more : content_frames c bytes ≡ frame_on c (Content (take piece_size bytes)) ∷ content_frames c (drop piece_size bytes) = content_more c bytes (omega (arith, length-take (sendable s) s.pending, sendable_bound s, some)) in
    let rest : drop piece_size bytes ≡ take (sendable (piece_sent n s)) (drop n s.pending) = drop_piece (sendable s) s.pending ∙ ap (λ k. take k (drop n s.pending)) (sym (sendable_less s n le)) in
    (λ i. more i ++ (if sym done i && not s.completion_sent then frame_on c ContentWritingCompleted ∷ [] else []) ++ (if sym done i && s.completed then frame_on c ChannelTerminated ∷ [] else []))
    ∙ (λ i. (frame_on c (Content (take_piece (sendable s) 0 s.pending i)) ∷ content_frames c (rest i)) ++ (if is_done (piece_sent n s) && not s.completion_sent then frame_on c ContentWritingCompleted ∷ [] else []) ++ (if is_done (piece_sent n s) && s.completed then frame_on c ChannelTerminated ∷ [] else []))

-- what is due, by what it depends on
pub record SendsOne (c : ChannelKey) (s : ChannelState) (d : Due) : Type 0 where
  pub settles : settled (sent_state d s) ≡ settled s
  pub frames : frames_due c s ≡ sent_frames c d s ++ frames_due c (sent_state d s)

settled_is : (s : ChannelState) → s.termination_sent ≡ false → s.peer_terminated ≡ false → settled s ≡ settled_open s
settled_is s e f = rw (e, f) refl

frames_are : (c : ChannelKey) (s : ChannelState) → s.termination_sent ≡ false → s.peer_terminated ≡ false → frames_due c s ≡ open_frames c s
frames_are c s e f = rw (e, f) refl

one_piece : (c : ChannelKey) (s : ChannelState) → s.termination_sent ≡ false → s.peer_terminated ≡ false → 0 < sendable s → SendsOne c s (kind.Content (min piece_size (sendable s)))
one_piece c s e f some =
    let n = min piece_size (sendable s) in
    record {
      settles = settled_is (piece_sent n s) e f ∙ (piece_settles s n (omega arith) ∙ sym (settled_is s e f));
      frames = frames_are c s e f ∙ (piece_frames c s some ∙ ap (λ fs. frame_on c (Content (take n s.pending)) ∷ fs) (sym (frames_are c (piece_sent n s) e f)));
    }

-- nothing more may go
pub record IsDry (s : ChannelState) : Type 0 where
  pub unsent : s.termination_sent ≡ false
  pub unpeered : s.peer_terminated ≡ false
  pub none : sendable s ≡ 0

dry_frames : (c : ChannelKey) (s : ChannelState) → IsDry s → frames_due c s ≡ (if is_done s && not s.completion_sent then frame_on c ContentWritingCompleted ∷ [] else []) ++ (if is_done s && s.completed then frame_on c ChannelTerminated ∷ [] else [])
dry_frames c s dry = frames_are c s dry.unsent dry.unpeered ∙ ap (λ n. content_frames c (take n s.pending) ++ (if is_done s && not s.completion_sent then frame_on c ContentWritingCompleted ∷ [] else []) ++ (if is_done s && s.completed then frame_on c ChannelTerminated ∷ [] else [])) dry.none

dry_open : (s : ChannelState) → IsDry s → settled s ≡ record s { completion_sent = is_done s; termination_sent = is_done s && s.completed }
dry_open s dry = settled_is s dry.unsent dry.unpeered ∙ same_state (settled_open s) (record s { completion_sent = is_done s; termination_sent = is_done s && s.completed }) refl refl refl refl refl (ap (λ n. drop n s.pending) dry.none) (omega (arith, dry.none)) refl refl refl refl refl refl refl refl refl refl

-- the completion
one_completion : (c : ChannelKey) (s : ChannelState) → IsDry s → is_done s ≡ true → s.completion_sent ≡ false → SendsOne c s kind.Completed
one_completion c s dry done first =
    let after : IsDry (sent_state kind.Completed s) = record { unsent = dry.unsent; unpeered = dry.unpeered; none = dry.none } in
    record {
      settles = dry_open (sent_state kind.Completed s) after ∙ ((λ i. record s { completion_sent = sym done i; termination_sent = sym done i && s.completed }) ∙ sym (dry_open s dry));
      frames = dry_frames c s dry ∙ ((λ i. (if done i && not (first i) then frame_on c ContentWritingCompleted ∷ [] else []) ++ (if done i && s.completed then frame_on c ChannelTerminated ∷ [] else []))
          ∙ ap (λ fs. frame_on c ContentWritingCompleted ∷ fs) (sym (dry_frames c (sent_state kind.Completed s) after)));
    }

-- the termination, after both completions
one_termination : (c : ChannelKey) (s : ChannelState) → IsDry s → is_done s ≡ true → s.completion_sent ≡ true → s.completed ≡ true → SendsOne c s kind.Terminated
one_termination c s dry done first both =
    record {
      settles = (λ i. record s { completion_sent = (first ∙ sym done) i; termination_sent = sym done i && sym both i }) ∙ sym (dry_open s dry);
      frames = dry_frames c s dry ∙ (λ i. (if done i && not (first i) then frame_on c ContentWritingCompleted ∷ [] else []) ++ (if done i && both i then frame_on c ChannelTerminated ∷ [] else []));
    }

-- a channel that owes nothing is settled
pub nothing_due : (c : ChannelKey) (s : ChannelState) → IsDry s → (is_done s && not s.completion_sent) ≡ false → (is_done s && s.completed) ≡ false → (settled s ≡ s) × (frames_due c s ≡ [])
nothing_due c s dry first both = (
  dry_open s dry ∙ (λ i. record s { completion_sent = told s.completion_sent (goes_whole s) first i; termination_sent = (both ∙ sym dry.unsent) i }),
  dry_frames c s dry ∙ (λ i. (if first i then frame_on c ContentWritingCompleted ∷ [] else []) ++ (if both i then frame_on c ChannelTerminated ∷ [] else [])),
)
  where
    told : (x d : Bool) → ((x || d) && not x) ≡ false → (x || d) ≡ x
    told true d e = refl
    told false true e = absurd (true≢false e)
    told false false e = refl

one_by_peer : (c : ChannelKey) (s : ChannelState) → s.termination_sent ≡ false → s.peer_terminated ≡ true → SendsOne c s kind.Terminated
one_by_peer c s e f = record { settles = rw (e, f) refl; frames = rw (e, f) refl }

sent_nothing : (c : ChannelKey) (s : ChannelState) → SendsOne c s kind.Nothing
sent_nothing c s = record { settles = refl; frames = refl }

dry_case : (c : ChannelKey) (s : ChannelState) → IsDry s → SendsOne c s (if is_done s && not s.completion_sent then kind.Completed else if is_done s && s.completed then kind.Terminated else kind.Nothing)
dry_case c s dry = elim (cases_Bool (is_done s && not s.completion_sent)) [
  | inl e ↦ rw e (let parts = and_parts (is_done s) (not s.completion_sent) e in one_completion c s dry parts.0 (not-true s.completion_sent parts.1))
  | inr e ↦ rw e (elim (cases_Bool (is_done s && s.completed)) [
    | inl f ↦ rw f (let parts = and_parts (is_done s) s.completed f in one_termination c s dry parts.0 (sent_first (is_done s) s.completion_sent parts.0 e) parts.1)
    | inr f ↦ rw f (sent_nothing c s)
  ])
]
  where
    sent_first : (d x : Bool) → d ≡ true → (d && not x) ≡ false → x ≡ true
    sent_first true true e f = refl
    sent_first true false e f = absurd (true≢false f)
    sent_first false x e f = absurd (false≢true e)

open_case : (c : ChannelKey) (s : ChannelState) → s.termination_sent ≡ false → s.peer_terminated ≡ false
    → SendsOne c s (if nat_lt 0 (sendable s) then kind.Content (min piece_size (sendable s)) else if is_done s && not s.completion_sent then kind.Completed else if is_done s && s.completed then kind.Terminated else kind.Nothing)
open_case c s e f = elim (cases_Bool (nat_lt 0 (sendable s))) [
  | inl more ↦ rw more (one_piece c s e f (ltb-true 0 (sendable s) more))
  | inr none ↦ rw none (dry_case c s (record { unsent = e; unpeered = f; none = omega (arith, ltb-false 0 (sendable s) none) }))
]

-- one frame is sent, and what is due after it is what was due behind it
pub sends_one : (c : ChannelKey) (s : ChannelState) → SendsOne c s (due_of s)
sends_one c s = cond_both s.termination_sent kind.Nothing _ (SendsOne c s) (λ e. sent_nothing c s) (λ e. cond_both s.peer_terminated kind.Terminated _ (SendsOne c s) (λ f. one_by_peer c s e f) (λ f. open_case c s e f))

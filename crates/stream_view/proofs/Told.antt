-- The lines that were told of a stream, as its frames go by.
use Rattle.std.proofs.Common.{◌≡◌, ℕ, zero, suc, ◌+◌, ◌<◌, ◌≤◌, List, [], ◌++◌, length, drop, refl, sym, ap, ◌∙◌, arith, append_assoc, length-drop, Option, Some, None, Result, Ok, Err, codes}
use Rattle.std.specs.Prelude.{OnErr}
use Rattle.wire_base.proofs.AppendsLemmas.{appends_first, appends_second}
use Rattle.std.proofs.lemmas.List.{append-nil, drop-drop}
use Rattle.wire_base.specs.Appends.{AppendsFront}
use Rattle.wire_base.specs.Front.{Whole, Short, Broken}
use Rattle.wire_base.specs.declared.reason.Reason.{Reason}
use Rattle.wire_base.specs.declared.frame.Version.{Version}
use Rattle.wire_base.specs.declared.frame.Frame.{Frame}
use Rattle.frame_text.specs.Front.{Front}
use Rattle.frame_text.specs.Reading.{front}
use Rattle.stream_view.specs.Lines.{frame_line, rest_line, refused_line}
use Rattle.stream_view.specs.View.{no_frame, onto, stream_by, stream_of, stream_behind, stream_lines, stream_refusal, left_line, left_refusal}

-- up to this place the lines of the stream behind the handshake are told, and the others are those of the stream from there on
pub record IsTold (v : Version) (size : ℕ) (bytes old out : List ℕ) (at : ℕ) : Type 0 where
  pub told : List ℕ
  pub most : ℕ
  pub out_is : out ≡ old ++ told
  pub lines : told ++ stream_lines v (stream_of v most at (drop at bytes)) ≡ stream_lines v (stream_behind v size bytes)
  pub refusal : stream_refusal v (stream_of v most at (drop at bytes)) ≡ stream_refusal v (stream_behind v size bytes)
  pub enough : length bytes ≤ most + at
  pub within : at ≤ length bytes

pub told_none : (v : Version) (size : ℕ) (bytes old : List ℕ) → size ≤ length bytes → IsTold v size bytes old old size
told_none v size bytes old within = record {
  told = [];
  most = length bytes;
  out_is = sym (append-nil old);
  lines = refl;
  refusal = refl;
  enough = omega arith;
  within = within;
}

-- what stands in front, as a codec of the version told of the bytes from a place on
pub front_told : (v w : Version) (bytes rest : List ℕ) (at : ℕ) (left : Front) → w ≡ v → rest ≡ drop at bytes → front w rest ≡ left → front v (drop at bytes) ≡ left
front_told v w bytes rest at left e f is = cc

-- a frame is in front of the others
pub stream_next : (v : Version) (most at : ℕ) (bytes : List ℕ) (f : Frame) (size : ℕ) → front v bytes ≡ Whole f size → stream_of v (suc most) at bytes ≡ onto (at, f) (stream_of v most (at + size) (drop size bytes))
stream_next v most at bytes f size e = ap (stream_by (stream_of v most) at bytes) e

told_more : (v : Version) (size : ℕ) (bytes old out new : List ℕ) (at n : ℕ) (f : Frame) (told : List ℕ) (most : ℕ)
    → out ≡ old ++ told → told ++ stream_lines v (stream_of v most at (drop at bytes)) ≡ stream_lines v (stream_behind v size bytes)
    → stream_refusal v (stream_of v most at (drop at bytes)) ≡ stream_refusal v (stream_behind v size bytes) → length bytes ≤ most + at → at ≤ length bytes
    → front v (drop at bytes) ≡ Whole f n → 0 < n → n ≤ length (drop at bytes) → new ≡ out ++ frame_line at f → IsTold v size bytes old new (at + n)
told_more v size bytes old out new at n f told zero out_is lines refusal enough within e some inside is =
    absurd (omega (arith, length-drop at bytes))
told_more v size bytes old out new at n f told (suc most) out_is lines refusal enough within e some inside is =
    let next : stream_of v (suc most) at (drop at bytes) ≡ onto (at, f) (stream_of v most (at + n) (drop (at + n) bytes)) =
    stream_next v most at (drop at bytes) f n e ∙ ap (λ bs. onto (at, f) (stream_of v most (at + n) bs)) (drop-drop n at bytes) in
    let later = stream_of v most (at + n) (drop (at + n) bytes) in
    record {
      told = told ++ frame_line at f;
      most = most;
      out_is = is ∙ (ap (λ bs. bs ++ frame_line at f) out_is ∙ append_assoc old told (frame_line at f));
      lines =
          append_assoc told (frame_line at f) (stream_lines v later)
          ∙ (ap (λ bs. told ++ bs) (sym (append_assoc (frame_line at f) _ _)) ∙ (ap (λ s. told ++ stream_lines v s) (sym next) ∙ lines));
      refusal = ap (stream_refusal v) (sym next) ∙ refusal;
      enough = omega arith;
      within = omega (arith, length-drop at bytes);
    }

pub told_next : (v : Version) (size : ℕ) (bytes old out new : List ℕ) (at n : ℕ) (f : Frame) → IsTold v size bytes old out at → front v (drop at bytes) ≡ Whole f n → 0 < n → n ≤ length (drop at bytes) → new ≡ out ++ frame_line at f → IsTold v size bytes old new (at + n)
told_next v size bytes old out new at n f t e some inside is = told_more v size bytes old out new at n f t.told t.most t.out_is t.lines t.refusal t.enough t.within e some inside is

-- no whole frame is in front, so there is none
pub stream_short : (v : Version) (most at : ℕ) (bytes : List ℕ) → front v bytes ≡ Short → stream_of v most at bytes ≡ no_frame at bytes
stream_short v zero at bytes e = refl
stream_short v (suc most) at bytes e = ap (stream_by (stream_of v most) at bytes) e

pub stream_broken : (v : Version) (most at : ℕ) (bytes : List ℕ) (offset : ℕ) (reason : Reason) → front v bytes ≡ Broken offset reason → stream_of v most at bytes ≡ no_frame at bytes
stream_broken v zero at bytes offset reason e = refl
stream_broken v (suc most) at bytes offset reason e = ap (stream_by (stream_of v most) at bytes) e

-- all lines are told, and this is where the stream is refused
pub record IsAllTold (v : Version) (size : ℕ) (bytes old new : List ℕ) (refused : Option (ℕ × Reason)) : Type 0 where
  pub text : new ≡ old ++ stream_lines v (stream_behind v size bytes)
  pub refusal : refused ≡ stream_refusal v (stream_behind v size bytes)

told_left : (v : Version) (size : ℕ) (bytes old out new : List ℕ) (at : ℕ) (left : Front) → (t : IsTold v size bytes old out at) → stream_of v t.most at (drop at bytes) ≡ no_frame at (drop at bytes)
    → front v (drop at bytes) ≡ left → new ≡ out ++ left_line at (length (drop at bytes)) left → IsAllTold v size bytes old new (left_refusal at left)
told_left v size bytes old out new at left t none e is =
    let line = left_line at (length (drop at bytes)) in
    let tail : stream_lines v (stream_of v t.most at (drop at bytes)) ≡ line left = ap (stream_lines v) none ∙ ap (λ x. [] ++ line x) e in
    record {
      text = is ∙ (ap (λ bs. bs ++ line left) t.out_is ∙ (append_assoc old t.told (line left) ∙ ap (λ bs. old ++ bs) (ap (λ bs. t.told ++ bs) (sym tail) ∙ t.lines)));
      refusal = ap (left_refusal at) (sym e) ∙ (ap (stream_refusal v) (sym none) ∙ t.refusal);
    }

pub told_short : (v : Version) (size : ℕ) (bytes old out new : List ℕ) (at : ℕ) → IsTold v size bytes old out at → front v (drop at bytes) ≡ Short → new ≡ out ++ rest_line at (length (drop at bytes)) → IsAllTold v size bytes old new None
told_short v size bytes old out new at t e is = told_left v size bytes old out new at Short t (stream_short v t.most at (drop at bytes) e) e is

pub told_broken : (v : Version) (size : ℕ) (bytes old out new : List ℕ) (at offset place : ℕ) (reason : Reason) → IsTold v size bytes old out at → front v (drop at bytes) ≡ Broken offset reason → place ≡ at + offset → new ≡ out ++ refused_line place reason
    → IsAllTold v size bytes old new (Some (place, reason))
told_broken v size bytes old out new at offset place reason t e there is =
    let all = told_left v size bytes old out new at (Broken offset reason) t (stream_broken v t.most at (drop at bytes) offset reason e) e (is ∙ ap (λ n. out ++ refused_line n reason) there) in
    record { text = all.text; refusal = ap (λ n. Some (n, reason)) there ∙ all.refusal }

-- memory ran out, and the lines that were told stand
pub told_cut : (v : Version) (size : ℕ) (bytes old out new : List ℕ) (at : ℕ) → IsTold v size bytes old out at → new ≡ out → AppendsFront old new (stream_lines v (stream_behind v size bytes))
told_cut v size bytes old out new at t e = record {
  rest = stream_lines v (stream_of v t.most at (drop at bytes));
  appended = record { front = t.told; text_is = sym t.lines; new_is = e ∙ t.out_is };
}

pub stream_cut : {X E : Type 0} (r : Result X E) (v : Version) (size : ℕ) (bytes old out new : List ℕ) (at : ℕ) → IsTold v size bytes old out at → new ≡ out → OnErr r (AppendsFront old new (stream_lines v (stream_behind v size bytes)))
stream_cut (Ok x) v size bytes old out new at t e = tt
stream_cut (Err x) v size bytes old out new at t e = told_cut v size bytes old out new at t e

-- memory ran out among the lines of a view
pub view_cut : {X E : Type 0} (r : Result X E) (old mid new lines : List ℕ) → mid ≡ old ++ codes "view 1\n" → AppendsFront mid new lines → OnErr r (AppendsFront old new (codes "view 1\n" ++ lines ++ codes "end\n"))
view_cut (Ok x) old mid new lines e h = tt
view_cut (Err x) old mid new lines e h = appends_second old mid new (codes "view 1\n") (lines ++ codes "end\n") e (appends_first mid new lines (codes "end\n") h)

pub ruleset told = (told_none, told_next)

-- Steps of one multiplexing end between whole frames: calls, and what ends it.
use Rattle.std.specs.Prelude.{if◌then◌else◌, not, ◌&&◌, nat_le, true, false}
use Rattle.std.proofs.Common.{◌≡◌, ℕ, ◌+◌, ◌-◌, ◌<◌, List, [], ◌∷◌, ◌++◌, length, drop, map, refl, sym, ◌∙◌, ap, inl, inr, arith, Some, None}
use Rattle.std.proofs.lemmas.Bool.{cases_Bool, lt-leb}
use Rattle.std.proofs.lemmas.List.{append-nil, length-map, drop_all}
use Rattle.wire_base.specs.declared.frame.Version.{Version}
use Rattle.wire_base.specs.declared.frame.Version.TheVariants as version
use Rattle.wire_base.specs.declared.state.Cause.{Cause}
use Rattle.frame_text.specs.Hello.{hello}
use Rattle.mux_items.specs.declared.call.Call.{Call}
use Rattle.mux_items.specs.declared.call.Call.TheVariants as call
use Rattle.mux_items.specs.Bodies.{ChannelFrame, flip, frame_texts}
use Rattle.mux_items.specs.Calls.{call_refusal, item_of_call, unless_refused, called}
use Rattle.mux_items.specs.Items.{Item, End, is_running}
use Rattle.mux_items.specs.Due.{sent, got}
use Rattle.mux_items.specs.Refusals.{is_ready}
use Rattle.mux_run.specs.Between.{ahead}
use Rattle.mux_run.specs.Run.{RunSide, SideTerms, greeting_size, whole_frames, next_frames, place_after, greet, greeted, apply_frames, settled, stopped, side_after}
use Rattle.mux_run.specs.Linked.{Linked, Joined}
use Rattle.mux_run.specs.declared.steps.Side.{Side}
use Rattle.mux_run.specs.declared.steps.Step.TheVariants as step
use Rattle.mux_run.proofs.WholeFrames.{whole_same, whole_all}
use Rattle.mux_run.proofs.Growing.{called_grown, apply_frames_stopped}
use Rattle.mux_run.proofs.Links.{called_joined}
use Rattle.mux_run.proofs.Fed.{greeting_called, ready_same}
use Rattle.endpoint_run.specs.Next.{applied_bytes}

abbrev pub run_side : List Item → (given : ℕ) → RunSide
run_side m d = record { items = m; delivered = d }

-- while the end runs it was given just what it applied
pub record AtBoundary (w : SideTerms) (m : List Item) (d : ℕ) : Type 0 where
  pub at : is_running m ≡ true → d ≡ applied_bytes w m
  pub waits : is_ready w.version m ≡ false → got m ≡ []

pub at_ready : (w : SideTerms) (m : List Item) (d : ℕ) → AtBoundary w m d → is_running m ≡ true → is_ready w.version m ≡ true → d ≡ greeting_size w + length (frame_texts w.version (map flip (got m)))
at_ready w m d b runs ready = b.at runs ∙ ap (λ r. if r then greeting_size w + length (frame_texts w.version (map flip (got m))) else 0) ready

pub at_start : (w : SideTerms) (m : List Item) (d : ℕ) → AtBoundary w m d → is_running m ≡ true → is_ready w.version m ≡ false → d ≡ 0
at_start w m d b runs unready = b.at runs ∙ ap (λ r. if r then greeting_size w + length (frame_texts w.version (map flip (got m))) else 0) unready

-- a handshake has bytes, but in version 3, which has none
pub greeting_bytes : (w : SideTerms) (m : List Item) → is_ready w.version m ≡ false → 0 < greeting_size w
greeting_bytes w m = by w.version
  where
    by : (v : Version) → is_ready v m ≡ false → 0 < length (hello v w.peer)
    by version.One e = omega arith
    by version.Two e = omega arith
    by version.Three e = cc

-- nothing more is whole

pub whole_at : (v : Version) (n : ℕ) (gs ahead : List ChannelFrame) → n ≡ length (frame_texts v gs) → whole_frames v n (gs ++ ahead) ≡ gs
whole_at v n gs ahead e = whole_same v n gs ahead (omega arith) ∙ whole_all v n gs (omega arith)

none_next : (w : SideTerms) (m : List Item) (d : ℕ) (n : RunSide) (ahead : List ChannelFrame) → sent w.version n.items ≡ map flip (got m) ++ ahead
    → d - greeting_size w ≡ length (frame_texts w.version (map flip (got m))) → next_frames w d (length (got m)) n ≡ []
none_next w m d n ahead e size =
    let gs = map flip (got m) in
    ap (λ fs. drop (length (got m)) (whole_frames w.version (d - greeting_size w) fs)) e
    ∙ (ap (drop (length (got m))) (whole_at w.version (d - greeting_size w) gs ahead size) ∙ drop_all (length (got m)) gs (omega (arith, length-map (got m) flip)))

not_greeted : (w : SideTerms) (given : ℕ) (m : List Item) → (is_running m && not (is_ready w.version m) && nat_le (greeting_size w) given) ≡ false → greeted w given m ≡ m
not_greeted w given m e = ap (λ b. if b then greet w ∷ m else m) e

greeted_ready : (w : SideTerms) (given : ℕ) (m : List Item) → is_ready w.version m ≡ true → greeted w given m ≡ m
greeted_ready w given m e = elim (is_running m) as (λ r. (if r && not (is_ready w.version m) && nat_le (greeting_size w) given then greet w ∷ m else m) ≡ m) [
  | true ↦ ap (λ b. if not b && nat_le (greeting_size w) given then greet w ∷ m else m) e
  | false ↦ refl
]

-- what settling makes of items whose handshake is done with
abbrev pub settled_on : SideTerms → ℕ → List Item → RunSide → RunSide
settled_on w d after n = record {
  items = if is_ready w.version after then apply_frames w.version (place_after w (length (got after)) n) (next_frames w d (length (got after)) n) after else after;
  delivered = d;
}

pub settled_ready : (w : SideTerms) (d : ℕ) (m : List Item) (n : RunSide) → is_ready w.version m ≡ true → settled w d m n ≡ run_side (apply_frames w.version (place_after w (length (got m)) n) (next_frames w d (length (got m)) n) m) d
settled_ready w d m n e =
    ap (λ after. settled_on w d after n) (greeted_ready w d m e)
    ∙ ap (λ b. run_side (if b then apply_frames w.version (place_after w (length (got m)) n) (next_frames w d (length (got m)) n) m else m) d) e

settled_stopped : (w : SideTerms) (d : ℕ) (m : List Item) (n : RunSide) → is_running m ≡ false → settled w d m n ≡ run_side m d
settled_stopped w d m n e =
    let same : greeted w d m ≡ m = ap (λ b. if b && not (is_ready w.version m) && nat_le (greeting_size w) d then greet w ∷ m else m) e in
    ap (λ after. settled_on w d after n) same ∙ (elim (is_ready w.version m) as (λ b. run_side (if b then apply_frames w.version (place_after w (length (got m)) n) (next_frames w d (length (got m)) n) m else m) d ≡ run_side m d) [
      | true ↦ ap (λ ms. run_side ms d) (apply_frames_stopped w.version (place_after w (length (got m)) n) (next_frames w d (length (got m)) n) m e)
      | false ↦ refl
    ])

settled_waiting : (w : SideTerms) (d : ℕ) (m : List Item) (n : RunSide) → is_ready w.version m ≡ false → d < greeting_size w → settled w d m n ≡ run_side m d
settled_waiting w d m n e h =
    let same : greeted w d m ≡ m = not_greeted w d m (elim (is_running m && not (is_ready w.version m)) as (λ b. (b && nat_le (greeting_size w) d) ≡ false) [ true ↦ lt-leb (greeting_size w) d h | false ↦ refl ]) in
    ap (λ after. settled_on w d after n) same
    ∙ ap (λ b. run_side (if b then apply_frames w.version (place_after w (length (got m)) n) (next_frames w d (length (got m)) n) m else m) d) e

-- at a boundary settling changes nothing
pub settled_boundary : (w : SideTerms) (m : List Item) (d : ℕ) (n : RunSide) → Linked w (run_side m d) n → AtBoundary w m d → settled w d m n ≡ run_side m d
settled_boundary w m d n l b = elim (cases_Bool (is_running m)) [
  | inr e ↦ settled_stopped w d m n e
  | inl runs ↦ elim (cases_Bool (is_ready w.version m)) [
    | inl ready ↦
        settled_ready w d m n ready
        ∙ ap (λ fs. run_side (apply_frames w.version (place_after w (length (got m)) n) fs m) d) (none_next w m d n (ahead w.version m n.items) l.applied (let size = at_ready w m d b runs ready in omega arith))
    | inr unready ↦ settled_waiting w d m n unready (let none = at_start w m d b runs unready in let some = greeting_bytes w m unready in omega arith)
  ]
]

-- a call

running_call : (c : Call) (m : List Item) → is_running (item_of_call c m ∷ m) ≡ is_running m
running_call (call.Offer name size) m = refl
running_call (call.Accept c size) m = refl
running_call (call.Write c bytes) m = refl
running_call (call.Read c max) m = refl
running_call (call.Complete c) m = refl
running_call (call.Terminate c) m = refl

pub running_called : (v : Version) (c : Call) (m : List Item) → is_running (called v c m) ≡ is_running m
running_called v c m = elim (call_refusal v c m) as (λ r. is_running (unless_refused r (item_of_call c m) m) ≡ is_running m) [
  | Some refusal ↦ refl
  | None ↦ running_call c m
]

pub got_called : (v : Version) (c : Call) (m : List Item) → got (called v c m) ≡ got m
got_called v c m = (called_grown v c m).applied ∙ append-nil (got m)

pub ready_called : (v : Version) (c : Call) (m : List Item) → is_ready v (called v c m) ≡ is_ready v m
ready_called v c m = ready_same v m (called v c m) (greeting_called v c m)

pub boundary_same : (w : SideTerms) (m after : List Item) (d : ℕ) → is_running after ≡ is_running m → got after ≡ got m → is_ready w.version after ≡ is_ready w.version m → AtBoundary w m d → AtBoundary w after d
boundary_same w m after d running same ready b = record {
  at = λ runs. b.at (sym running ∙ runs) ∙ (ap (λ r. if r then greeting_size w + length (frame_texts w.version (map flip (got m))) else 0) (sym ready)
      ∙ ap (λ fs. if is_ready w.version after then greeting_size w + length (frame_texts w.version (map flip fs)) else 0) (sym same));
  waits = λ unready. same ∙ b.waits (sym ready ∙ unready);
}

pub called_boundary : (w : SideTerms) (c : Call) (m : List Item) (d : ℕ) → AtBoundary w m d → AtBoundary w (called w.version c m) d
called_boundary w c m d b = boundary_same w m (called w.version c m) d (running_called w.version c m) (got_called w.version c m) (ready_called w.version c m) b

pub call_fine : (w : SideTerms) (side : Side) (c : Call) (m : List Item) (d : ℕ) (n : RunSide) → Joined w (run_side m d) n → AtBoundary w m d → side_after w (step.Call side c) (run_side m d) n ≡ run_side (called w.version c m) d
call_fine w side c m d n j b = settled_boundary w (called w.version c m) d n (called_joined w c (run_side m d) n j).into (called_boundary w c m d b)

-- the end

pub stopped_now : (why : Cause) (m : List Item) (d : ℕ) → is_running m ≡ true → stopped why (run_side m d) ≡ run_side (End why ∷ m) d
stopped_now why m d e = ap (λ b. if b then run_side (End why ∷ m) d else run_side m d) e

pub end_boundary : (w : SideTerms) (why : Cause) (m : List Item) (d : ℕ) → AtBoundary w m d → AtBoundary w (End why ∷ m) d
end_boundary w why m d b = record { at = λ runs. cc; waits = λ u. b.waits u }

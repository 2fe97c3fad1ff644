-- An end that adds an item stands for one more.
use Rattle.std.specs.Prelude.{if◌then◌else◌}
use Rattle.std.proofs.Common.{◌≡◌, ℕ, ◌≤◌, ◌<◌, List, [], ◌∷◌, ◌++◌, length, take, drop, refl, sym, ◌∙◌, ap, ap₂, subst, arith, length-append, append_assoc}
use Rattle.std.proofs.lemmas.List.{take-append-le}
use Rattle.wire_base.specs.declared.frame.Version.{Version}
use Rattle.mux_items.specs.declared.call.Call.{Call}
use Rattle.mux_items.specs.declared.channel.ChannelKey.{ChannelKey}
use Rattle.mux_items.specs.Bodies.{frame_texts}
use Rattle.mux_items.specs.Calls.{called}
use Rattle.mux_items.specs.Due.{sent, got}
use Rattle.mux_items.specs.Items.{Item}
use Rattle.mux_items.specs.Lists.{taken}
use Rattle.mux_items.specs.Refusals.{is_ready}
use Rattle.mux_run.specs.Run.{RunSide, SideTerms, out, place_after}
use Rattle.mux_run.proofs.Growing.{out-more}
use Rattle.wire_base.specs.declared.limits.TheConstants.{COUNT_LIMIT}
use Rattle.endpoint_items.specs.Following.{followed}
use Rattle.endpoint_items.specs.Items.{EndItem}
use Rattle.endpoint_items.specs.Layers.{mux_of}
use Rattle.endpoint_run.proofs.Boundary.{got_called, ready_called}
use Rattle.endpoint.specs.Replies.{Adds}
use Rattle.endpoint.specs.Stands.{Stands}
use Rattle.endpoint.specs.Value.{EndpointValue}
use Rattle.duo_world.specs.Holding.{place_of, rest_of, StandsForSide}
use Rattle.duo_world.specs.Settling.{side_with}
use Rattle.duo_world.proofs.Ranging.{OwnInRange, mux_in_range}
use Rattle.duo_world.proofs.Settling.{given_side}

-- calls that follow apply nothing

pub got_followed : (v : Version) (calls : List Call) (m : List Item) → got (followed v calls m) ≡ got m
got_followed v [] m = refl
got_followed v (c ∷ calls) m = got_followed v calls (called v c m) ∙ got_called v c m

pub ready_followed : (v : Version) (calls : List Call) (m : List Item) → is_ready v (followed v calls m) ≡ is_ready v m
ready_followed v [] m = refl
ready_followed v (c ∷ calls) m = ready_followed v calls (called v c m) ∙ ready_called v c m

-- where the same was applied, the same is left

pub place_same : (w : SideTerms) (d : ℕ) (m after : List Item) (y : RunSide) → got after ≡ got m → is_ready w.version after ≡ is_ready w.version m → place_of w (given_side after d) y ≡ place_of w (given_side m d) y
place_same w d m after y same ready = ap₂ (λ b fs. if b then place_after w (length fs) y else 0) ready same

pub rest_at : (w : SideTerms) (d at : ℕ) (after : List Item) (y : RunSide) → at ≡ place_of w (given_side after d) y → drop at (take d (out w.version w.peer y.items)) ≡ rest_of w (given_side after d) y
rest_at w d at after y e = ap (λ n. drop n (take d (out w.version w.peer y.items))) e

-- few bytes were taken from a channel
few_taken : (v : Version) (end : EndpointValue) (items : List EndItem) (at : ℕ) (rest : List ℕ) → end.mux.version ≡ v → Stands end items at rest → (c : ChannelKey) → length (taken v c (mux_of v items)) < COUNT_LIMIT
few_taken v end items at rest e s c =
    let within : length (taken v c (mux_of v items)) ≤ at = subst (λ v. length (taken v c (mux_of v items)) ≤ at) e (s.taken_within c) in
    omega (arith, within, s.fed_within)

-- an end that adds an item
pub stands_more : (w : SideTerms) (old new : EndpointValue) (item : EndItem) (items : List EndItem) (d : ℕ) (y : RunSide) (at : ℕ) (rest : List ℕ) → StandsForSide w old (side_with items d) y → OwnInRange w item (mux_of w.version items)
    → Adds old new items at rest item → at ≡ place_of w (given_side (mux_of w.version (item ∷ items)) d) y → rest ≡ rest_of w (given_side (mux_of w.version (item ∷ items)) d) y → StandsForSide w new (side_with (item ∷ items) d) y
stands_more w old new item items d y at rest h own a at_is rest_is =
    let v = w.version in
    let version : new.mux.version ≡ v = a.terms.version ∙ h.version in
    let before = out v w.own (mux_of v items) in
    let after = out v w.own (mux_of v (item ∷ items)) in
    let frames = a.sends.frames in
    let more = frame_texts v frames in
    let sent_are : sent v (mux_of v (item ∷ items)) ≡ sent v (mux_of v items) ++ frames = subst (λ v. sent v (mux_of v (item ∷ items)) ≡ sent v (mux_of v items) ++ frames) h.version a.sends.sent_are in
    let grown : after ≡ before ++ more = out-more v w.own (mux_of v items) (mux_of v (item ∷ items)) frames sent_are in
    let same : take y.delivered after ≡ take y.delivered before = ap (take y.delivered) grown ∙ take-append-le y.delivered before more h.bound in
    let output : new.mux.output ≡ old.mux.output ++ more = a.sends.output ∙ ap (λ v. old.mux.output ++ frame_texts v frames) h.version in
    record {
      stands = subst (λ at. Stands new (item ∷ items) at (rest_of w (given_side (mux_of v (item ∷ items)) d) y)) at_is (subst (Stands new (item ∷ items) at) rest_is a.stands);
      in_range = mux_in_range w item items own (few_taken v new (item ∷ items) at rest version a.stands) h.in_range;
      output = ap (λ bs. bs ++ new.mux.output) same ∙ (ap (λ bs. take y.delivered before ++ bs) output ∙ (sym (append_assoc (take y.delivered before) old.mux.output more) ∙ (ap (λ bs. bs ++ more) h.output ∙ sym grown)));
      bound = omega (arith, ap length grown, length-append before more, h.bound);
      version = version;
      nonce = a.terms.nonce ∙ h.nonce;
    }

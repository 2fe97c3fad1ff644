-- Each item that is added keeps two ends together.
use Rattle.std.specs.Prelude.{ℕ, List, [], ◌∷◌, ◌++◌, length, drop, map, true, None}
use Rattle.std.proofs.Common.{◌≡◌, refl, sym, ◌∙◌, ap, append_assoc}
use Rattle.std.proofs.lemmas.List.{map-append, length-map, drop_at}
use Rattle.wire_base.specs.declared.frame.Version.{Version}
use Rattle.wire_base.specs.declared.state.Cause.{Cause}
use Rattle.mux_items.specs.declared.call.Call.{Call}
use Rattle.mux_items.specs.declared.channel.ChannelKey.{ChannelKey}
use Rattle.mux_items.specs.declared.party.Party.{Party}
use Rattle.mux_items.specs.Bodies.{FrameBody, ChannelFrame, flip}
use Rattle.mux_items.specs.Items.{Item, Hello, End, is_running}
use Rattle.mux_items.specs.Due.{sent, got}
use Rattle.mux_items.specs.Calls.{called}
use Rattle.mux_items.specs.Refusals.{frame_refusal}
use Rattle.mux_items.specs.Applying.{IsGreeting, IsTaken, item_of_frame, after_frame, apply_frame}
use Rattle.mux_items.proofs.Applied.{got_apply, allowed_apply}
use Rattle.mux_items.proofs.Flips.{flips_flip}
use Rattle.mux_run.specs.Between.{ahead, Between}
use Rattle.mux_run.proofs.Growing.{Grown, sent_grows, called_grown, hello_grown, end_grown}

pub ahead_is : (v : Version) (x y : List Item) (fs : List ChannelFrame) → sent v y ≡ map flip (got x) ++ fs → ahead v x y ≡ fs
ahead_is v x y fs e = ap (drop (length (got x))) e ∙ drop_at (map flip (got x)) fs (length (got x)) (length-map (got x) flip)

-- so the frames ahead need not be named
pub ahead_into : (v : Version) (x y : List Item) (fs : List ChannelFrame) → sent v y ≡ map flip (got x) ++ fs → sent v y ≡ map flip (got x) ++ ahead v x y
ahead_into v x y fs e = e ∙ ap (λ gs. map flip (got x) ++ gs) (sym (ahead_is v x y fs e))

-- what came to x, and what is still ahead of it

pub came_all : (v : Version) (x y after : List Item) (done left : List ChannelFrame) → sent v y ≡ map flip (got x) ++ ahead v x y → ahead v x y ≡ done ++ left → got after ≡ got x ++ map flip done → sent v y ≡ map flip (got after) ++ left
came_all v x y after done left into are came =
    let flips : map flip (got after) ≡ map flip (got x) ++ done = ap (map flip) came ∙ (map-append flip (got x) (map flip done) ∙ ap (λ fs. map flip (got x) ++ fs) (flips_flip done)) in
    into ∙ (ap (λ fs. map flip (got x) ++ fs) are ∙ (sym (append_assoc (map flip (got x)) done left) ∙ ap (λ fs. fs ++ left) (sym flips)))

-- more frames were due at y
pub went_more : (v : Version) (x y after : List Item) (more : List ChannelFrame) → sent v y ≡ map flip (got x) ++ ahead v x y → sent v after ≡ sent v y ++ more → sent v after ≡ map flip (got x) ++ (ahead v x y ++ more)
went_more v x y after more into went = went ∙ (ap (λ fs. fs ++ more) into ∙ append_assoc (map flip (got x)) (ahead v x y) more)

pub turned_between : (v : Version) (x y : List Item) → Between v x y → Between v y x
turned_between v x y b = record { into = b.back; back = b.into; allowed = b.allowed_peer; allowed_peer = b.allowed }

-- x goes on, and applies the first of the frames ahead
pub between_after : (v : Version) (x y after : List Item) (done left : List ChannelFrame) → Between v x y → ahead v x y ≡ done ++ left → Grown v x after (map flip done) → Between v after y × (ahead v after y ≡ left)
between_after v x y after done left b are g =
    let on = sent_grows v x after (map flip done) g in
    let into = came_all v x y after done left b.into are g.applied in
    let back = went_more v y x after on.0 b.back on.1 in
    (record { into = ahead_into v after y left into; back = ahead_into v y after (ahead v y x ++ on.0) back; allowed = g.allowed b.allowed; allowed_peer = b.allowed_peer }, ahead_is v after y left into)

-- items by which no frame is applied
pub between_grown : (v : Version) (x y after : List Item) → Between v x y → Grown v x after [] → Between v after y
between_grown v x y after b g = (between_after v x y after [] (ahead v x y) b refl g).0

pub between_called : (v : Version) (c : Call) (x y : List Item) → Between v x y → Between v (called v c x) y
between_called v c x y b = between_grown v x y (called v c x) b (called_grown v c x)

pub between_hello : (v : Version) (party : Party) (x y : List Item) → Between v x y → IsGreeting v party x → Between v (Hello party ∷ x) y
between_hello v party x y b g = between_grown v x y (Hello party ∷ x) b (hello_grown v party x g)

pub between_end : (v : Version) (cause : Cause) (x y : List Item) → Between v x y → is_running x ≡ true → Between v (End cause ∷ x) y
between_end v cause x y b runs = between_grown v x y (End cause ∷ x) b (end_grown v cause x runs)

pub applied_is : (v : Version) (place : ℕ) (c : ChannelKey) (body : FrameBody) (items : List Item) → frame_refusal v c body items ≡ None → apply_frame v place c body items ≡ item_of_frame v place c body items ∷ items
applied_is v place c body items e = ap (after_frame v place c body items) e

-- the next frame, where x takes it
pub between_next : (v : Version) (place : ℕ) (x y : List Item) (f : ChannelFrame) (rest : List ChannelFrame) → Between v x y → IsTaken v (flip f).key f.body x → ahead v x y ≡ f ∷ rest
    → Between v (apply_frame v place (flip f).key f.body x) y × (ahead v (apply_frame v place (flip f).key f.body x) y ≡ rest)
between_next v place x y f rest b taken e =
    between_after v x y (apply_frame v place (flip f).key f.body x) (f ∷ []) rest b e (record {
      newer = item_of_frame v place (flip f).key f.body x ∷ [];
      is = applied_is v place (flip f).key f.body x taken.unrefused;
      applied = got_apply v place (flip f).key f.body x taken.unrefused;
      allowed = λ a. allowed_apply v place (flip f).key f.body x a taken.ready taken.running;
    })

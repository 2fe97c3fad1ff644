-- Every run is safe.
use Rattle.std.proofs.Common.{◌≡◌, List, ◌++◌, take, map, sym, ◌∙◌, ap, append_assoc}
use Rattle.wire_base.specs.declared.frame.Version.{Version}
use Rattle.mux_items.specs.declared.channel.ChannelKey.{ChannelKey}
use Rattle.mux_items.specs.Bodies.{other_key, flip}
use Rattle.mux_items.specs.Items.{Item}
use Rattle.mux_items.specs.Lists.{written, emitted, taken}
use Rattle.mux_items.specs.Due.{got, contents}
use Rattle.mux_items.proofs.Apart.{emitted-restricted, taken-restricted, handed-restricted, unread-restricted}
use Rattle.mux_items.proofs.Emission.{contents-append, sent_front, emitted_bound}
use Rattle.mux_items.proofs.Flips.{contents-flip}
use Rattle.mux_items.proofs.Taking.{taken_front, handed_bound, read_bytes-is}
use Rattle.mux_items.proofs.Window.{unread_window}
use Rattle.mux_run.specs.Run.{Terms}
use Rattle.mux_run.specs.Between.{ahead, Between}
use Rattle.mux_run.specs.Safe.{IsPrefixOf, IsApart, IsSafeWay, IsSafe, IsSafeRun}
use Rattle.mux_run.specs.Spending.{RunStep, IsSafeThrough}
use Rattle.mux_run.specs.declared.steps.Step.{Step}
use Rattle.mux_run.proofs.Between.{turned_between}
use Rattle.mux_run.proofs.Moments.{through_between, moments_between}

-- what x took of a channel is a front of what y emitted
taken_prefix : (v : Version) (c : ChannelKey) (x y : List Item) → Between v x y → IsPrefixOf (taken v c x) (take (emitted v (other_key c) y) (written (other_key c) y))
taken_prefix v c x y b =
    let front = taken_front v c x b.allowed in
    let rest = contents (other_key c) (ahead v x y) in
    let emitted_is : contents c (got x) ++ rest ≡ take (emitted v (other_key c) y) (written (other_key c) y) =
    ap (λ bs. bs ++ rest) (sym (contents-flip c (got x))) ∙ (sym (contents-append (other_key c) (map flip (got x)) (ahead v x y))
    ∙ (ap (contents (other_key c)) (sym b.into) ∙ sent_front v (other_key c) y)) in
    (front.0 ++ rest, sym (append_assoc (taken v c x) front.0 rest) ∙ (ap (λ bs. bs ++ rest) front.1 ∙ emitted_is))

pub apart : (v : Version) (c : ChannelKey) (items : List Item) → IsApart v c items
apart v c items = record { emitted = emitted-restricted v c items; taken = taken-restricted v c items; handed = handed-restricted v c items; unread = unread-restricted v c items }

pub way_safe : (v : Version) (c : ChannelKey) (x y : List Item) → Between v x y → IsSafeWay v c x y
way_safe v c x y b = record {
  prefix_property = record { handed_within = handed_bound v c x; handed = read_bytes-is v c x; taken = taken_prefix v c x y b; emitted_within = emitted_bound v (other_key c) y };
  window_bound = λ two. unread_window v c x two b.allowed;
  isolation = apart v c x;
}

pub between_safe : (v : Version) (a b : List Item) → Between v a b → IsSafe v a b
between_safe v a b together = record { to_a = λ c. way_safe v c a b together; to_b = λ c. way_safe v c b a (turned_between v a b together) }

pub through_safe : (terms : Terms) (steps : List RunStep) → IsSafeThrough terms steps
through_safe terms steps = λ a b moment. between_safe terms.version a b (through_between terms steps a b moment)

pub run_safe : (terms : Terms) (steps : List Step) → IsSafeRun terms steps
run_safe terms steps = λ a b moment. between_safe terms.version a b (moments_between terms steps a b moment)

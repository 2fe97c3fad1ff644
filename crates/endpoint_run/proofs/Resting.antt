-- Handles of a run rest after their end.
use Rattle.std.proofs.Common.{List}
use Rattle.wire_base.specs.declared.frame.Version.{Version}
use Rattle.mux_run.specs.Run.{Terms}
use Rattle.rpc_items.proofs.Resting.{rests, released_once}
use Rattle.endpoint_items.specs.Items.{EndItem}
use Rattle.endpoint_items.specs.Allowed.{AreAllowed}
use Rattle.endpoint_items.specs.Connections.{items_of}
use Rattle.endpoint_items.specs.Layers.{rpc_of}
use Rattle.endpoint_items.proofs.Sound.{encoder_on, sound}
use Rattle.endpoint_run.specs.Handles.{HandlesRest, HandlesRestRun}
use Rattle.endpoint_run.specs.Run.{EndStep}
use Rattle.endpoint_run.proofs.Allowing.{run_keeps}

handles_rest : (v : Version) (items : List EndItem) → AreAllowed v items → HandlesRest v items
handles_rest v items a c key = record {
  once = released_once (encoder_on c items) key (items_of (rpc_of v c items)) (sound v c items a);
  rests = rests (encoder_on c items) key (items_of (rpc_of v c items)) (sound v c items a);
}

pub run_rests : (terms : Terms) (steps : List EndStep) → HandlesRestRun terms steps
run_rests terms steps moment =
    let allowed = run_keeps terms steps moment in
    record { a = handles_rest terms.version _ allowed.a; b = handles_rest terms.version _ allowed.b }

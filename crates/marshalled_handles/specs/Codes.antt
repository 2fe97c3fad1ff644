-- How the logic stores what is kept of handles: each as a stored value, no two as one.
use Rattle.std.specs.Prelude.{ℕ, List, Bool, Option, refl}
use Rattle.std.specs.Coded.{Coded, code_by, coded×, coded_ℕ, coded_bool, coded_list, coded_option}
use Rattle.wire_base.specs.declared.text.Id.{Id}
use Rattle.rpc_items.specs.Codes.{coded_id}
use Rattle.marshalled_handles.specs.declared.own_handle.OwnHandle.{OwnHandle}
use Rattle.marshalled_handles.specs.declared.peer_handle.PeerHandle.{PeerHandle}

abbrev coded_own : Coded OwnHandle
coded_own = code_by ((ℕ × Option ℕ) × Bool) (coded× (coded× coded_ℕ (coded_option coded_ℕ)) coded_bool) (λ h. ((h.object, h.until), h.ended)) (λ p. record { object = p.0.0; until = p.0.1; ended = p.1 }) (λ _. refl)

abbrev pub coded_made : Coded (List OwnHandle)
coded_made = coded_list coded_own

abbrev coded_peer : Coded PeerHandle
coded_peer = code_by ((ℕ × Option Id) × Bool) (coded× (coded× coded_ℕ (coded_option coded_id)) coded_bool) (λ h. ((h.number, h.until), h.ended)) (λ p. record { number = p.0.0; until = p.0.1; ended = p.1 }) (λ _. refl)

abbrev pub coded_held : Coded (List PeerHandle)
coded_held = coded_list coded_peer

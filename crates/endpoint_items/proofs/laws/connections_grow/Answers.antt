use Rattle.endpoint_items.proofs.Growing.{newer_grew}
use Rattle.endpoint_items.proofs.laws.connections_grow.Goals as goal

pub returns : goal.returns
returns c = newer_grew

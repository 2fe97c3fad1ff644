use Rattle.std.proofs.Common.{refl}
use Rattle.mux_end.proofs.Keeping.{version_kept}
use Rattle.mux_end.proofs.known.make.Goals as goal

pub returns-in-Write-clause-one_version : goal.returns-in-Write-clause-one_version
returns-in-Write-clause-one_version c = version_kept c.args.channel.now _ c.write.new.self _ c.write.result refl c.write.ensures

pub returns-in-Complete-clause-one_version : goal.returns-in-Complete-clause-one_version
returns-in-Complete-clause-one_version c = version_kept c.args.channel.now _ c.complete.new.self _ c.complete.result refl c.complete.ensures

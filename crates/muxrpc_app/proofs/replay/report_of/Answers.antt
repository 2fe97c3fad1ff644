use Rattle.muxrpc_app.proofs.replay.report_of.Goals as goal

pub returns-clause-holds : goal.returns-clause-holds
returns-clause-holds c = c.in_ok-report.ensures.ran.holds

use Rattle.std.proofs.Common.{false, true}
use Rattle.nb_migration.proofs.Stepped.{refused_step, replied_step}
use Rattle.nb_migration.proofs.pieces.exchange_at.Goals as goal

pub returns-in-Ok-clause-stepped : goal.returns-in-Ok-clause-stepped
returns-in-Ok-clause-stepped c =
    replied_step c.in-Ok.reply true c.if-reply.true c.in-Ok.ensures.wrote.written c.seen_of.ensures

pub returns-in-Ok-2-clause-stepped : goal.returns-in-Ok-2-clause-stepped
returns-in-Ok-2-clause-stepped c =
    replied_step c.in-Ok.reply false c.if-reply.false c.in-Ok.ensures.wrote.written
    c.seen_of-in-Ok-2.ensures

pub returns-in-Err-clause-stepped : goal.returns-in-Err-clause-stepped
returns-in-Err-clause-stepped c =
    refused_step c.in-Err.refusal c.in-Err.ensures.wrote.written c.fault_of.ensures

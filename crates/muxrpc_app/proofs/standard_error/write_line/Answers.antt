use Rattle.std.proofs.Common.{refl, ap, ap₂, ◌++◌, ◌∙◌, codes}
use Rattle.std.specs.Fmt.{decimal}
use Rattle.muxrpc_app.proofs.Lines.{line_written, line_front, stream_line}
use Rattle.muxrpc_app.proofs.standard_error.write_line.Goals as goal

pub returns-in-Usage-clause-written : goal.returns-in-Usage-clause-written
returns-in-Usage-clause-written g c = line_written c.write_texts.result _ _ c.args.status.now _ _ c.in-Usage.is refl c.write_texts.ensures.written

pub returns-in-Usage-clause-front : goal.returns-in-Usage-clause-front
returns-in-Usage-clause-front g c = line_front c.write_texts.result _ _ c.args.status.now _ _ c.in-Usage.is refl c.write_texts.ensures.front

pub returns-in-ReadFault-clause-written : goal.returns-in-ReadFault-clause-written
returns-in-ReadFault-clause-written g c = line_written c.write_texts-in-ReadFault.result _ _ c.args.status.now _ _ c.in-ReadFault.is refl c.write_texts-in-ReadFault.ensures.written

pub returns-in-ReadFault-clause-front : goal.returns-in-ReadFault-clause-front
returns-in-ReadFault-clause-front g c = line_front c.write_texts-in-ReadFault.result _ _ c.args.status.now _ _ c.in-ReadFault.is refl c.write_texts-in-ReadFault.ensures.front

pub returns-in-WriteFault-clause-written : goal.returns-in-WriteFault-clause-written
returns-in-WriteFault-clause-written g c = line_written c.write_texts-in-WriteFault.result _ _ c.args.status.now _ _ c.in-WriteFault.is refl c.write_texts-in-WriteFault.ensures.written

pub returns-in-WriteFault-clause-front : goal.returns-in-WriteFault-clause-front
returns-in-WriteFault-clause-front g c = line_front c.write_texts-in-WriteFault.result _ _ c.args.status.now _ _ c.in-WriteFault.is refl c.write_texts-in-WriteFault.ensures.front

pub returns-in-LinkFault-clause-written : goal.returns-in-LinkFault-clause-written
returns-in-LinkFault-clause-written g c = line_written c.write_texts-in-LinkFault.result _ _ c.args.status.now _ _ c.in-LinkFault.is refl c.write_texts-in-LinkFault.ensures.written

pub returns-in-LinkFault-clause-front : goal.returns-in-LinkFault-clause-front
returns-in-LinkFault-clause-front g c = line_front c.write_texts-in-LinkFault.result _ _ c.args.status.now _ _ c.in-LinkFault.is refl c.write_texts-in-LinkFault.ensures.front

pub returns-in-OutOfMemory-clause-written : goal.returns-in-OutOfMemory-clause-written
returns-in-OutOfMemory-clause-written g c = line_written c.write_texts-in-OutOfMemory.result _ _ c.args.status.now _ _ c.in-OutOfMemory.is refl c.write_texts-in-OutOfMemory.ensures.written

pub returns-in-OutOfMemory-clause-front : goal.returns-in-OutOfMemory-clause-front
returns-in-OutOfMemory-clause-front g c = line_front c.write_texts-in-OutOfMemory.result _ _ c.args.status.now _ _ c.in-OutOfMemory.is refl c.write_texts-in-OutOfMemory.ensures.front

pub returns-in-TooLong-clause-written : goal.returns-in-TooLong-clause-written
returns-in-TooLong-clause-written g c = line_written c.write_texts-in-TooLong.result _ _ c.args.status.now _ _ c.in-TooLong.is refl c.write_texts-in-TooLong.ensures.written

pub returns-in-TooLong-clause-front : goal.returns-in-TooLong-clause-front
returns-in-TooLong-clause-front g c = line_front c.write_texts-in-TooLong.result _ _ c.args.status.now _ _ c.in-TooLong.is refl c.write_texts-in-TooLong.ensures.front

pub returns-in-LinkEnded-clause-written : goal.returns-in-LinkEnded-clause-written
returns-in-LinkEnded-clause-written g c = line_written c.write_texts-in-LinkEnded.result _ _ c.args.status.now _ _ c.in-LinkEnded.is refl c.write_texts-in-LinkEnded.ensures.written

pub returns-in-LinkEnded-clause-front : goal.returns-in-LinkEnded-clause-front
returns-in-LinkEnded-clause-front g c = line_front c.write_texts-in-LinkEnded.result _ _ c.args.status.now _ _ c.in-LinkEnded.is refl c.write_texts-in-LinkEnded.ensures.front

pub returns-in-ScriptRefused-clause-written : goal.returns-in-ScriptRefused-clause-written
returns-in-ScriptRefused-clause-written g c =
    line_written c.write_texts-in-ScriptRefused.result _ _ c.args.status.now _ _ c.in-ScriptRefused.is (ap₂ (λ a b. codes "muxrpc: " ++ (codes "line " ++ (a ++ (codes ": " ++ (b ++ codes "\n"))))) c.format.ensures.text c.format-in-ScriptRefused.ensures.text) c.write_texts-in-ScriptRefused.ensures.written

pub returns-in-ScriptRefused-clause-front : goal.returns-in-ScriptRefused-clause-front
returns-in-ScriptRefused-clause-front g c =
    line_front c.write_texts-in-ScriptRefused.result _ _ c.args.status.now _ _ c.in-ScriptRefused.is (ap₂ (λ a b. codes "muxrpc: " ++ (codes "line " ++ (a ++ (codes ": " ++ (b ++ codes "\n"))))) c.format.ensures.text c.format-in-ScriptRefused.ensures.text) c.write_texts-in-ScriptRefused.ensures.front

pub returns-in-StreamRefused-clause-written : goal.returns-in-StreamRefused-clause-written
returns-in-StreamRefused-clause-written g c =
    line_written c.write_texts-in-StreamRefused.result _ _ c.args.status.now _ _ c.in-StreamRefused.is (stream_line _ _ _ _ _ _ c.format-in-StreamRefused.ensures.text (c.format-in-StreamRefused-2.ensures.text ∙ ap decimal c.number.ensures) c.name.ensures) c.write_texts-in-StreamRefused.ensures.written

pub returns-in-StreamRefused-clause-front : goal.returns-in-StreamRefused-clause-front
returns-in-StreamRefused-clause-front g c =
    line_front c.write_texts-in-StreamRefused.result _ _ c.args.status.now _ _ c.in-StreamRefused.is (stream_line _ _ _ _ _ _ c.format-in-StreamRefused.ensures.text (c.format-in-StreamRefused-2.ensures.text ∙ ap decimal c.number.ensures) c.name.ensures) c.write_texts-in-StreamRefused.ensures.front

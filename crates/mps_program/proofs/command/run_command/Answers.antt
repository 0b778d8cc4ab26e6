use Rattle.mps_program.proofs.Generated.{generated_asks_nothing, generated_written, run_written}
use Rattle.mps_program.proofs.command.run_command.Goals as goal

pub returns-in-Convert-clause-asked : goal.returns-in-Convert-clause-asked
returns-in-Convert-clause-asked g c = rw c.in-Convert.is (record {
  justified = c.cnv.ensures.status;
  asked = c.cnv.ensures.asked;
  converted = c.cnv.ensures.converted;
  unique = c.cnv.ensures.unique;
  broken = c.cnv.ensures.broken;
  missing = c.cnv.ensures.missing;
  no_memory = c.cnv.ensures.no_memory;
  cut = c.cnv.ensures.cut;
  reported = c.cnv.ensures.reported;
})

pub returns-in-Generate-clause-asked : goal.returns-in-Generate-clause-asked
returns-in-Generate-clause-asked g c = rw c.in-Generate.is (record {
  statuses = c.generate.ensures.statuses;
  asked = generated_asks_nothing c.generate.result (g.D.Desk.outside c.args.desk.now) (g.D.Desk.outside c.generate.new.desk) _
      c.generate.ensures.statuses c.generate.ensures.whole c.generate.ensures.cut c.generate.ensures.no_memory;
  whole = c.generate.ensures.whole;
  written = c.generate.ensures.written;
  cut = c.generate.ensures.cut;
  no_memory = c.generate.ensures.no_memory;
})

pub returns-in-Read-clause-asked : goal.returns-in-Read-clause-asked
returns-in-Read-clause-asked g c = rw c.in-Read.is (record {
  justified = c.txt.ensures.status;
  asked = c.txt.ensures.asked;
  sound = c.txt.ensures.sound;
  unique = c.txt.ensures.unique;
  cut = c.txt.ensures.cut;
  missing = c.txt.ensures.missing;
  reported = c.txt.ensures.reported;
})

pub returns-in-Blocks-clause-asked : goal.returns-in-Blocks-clause-asked
returns-in-Blocks-clause-asked g c = rw c.in-Blocks.is (record {
  justified = c.blocks-in-Blocks.ensures.status;
  asked = c.blocks-in-Blocks.ensures.asked;
  listed = c.blocks-in-Blocks.ensures.listed;
  unique = c.blocks-in-Blocks.ensures.unique;
  silent = c.blocks-in-Blocks.ensures.silent;
  cut = c.blocks-in-Blocks.ensures.cut;
  missing = c.blocks-in-Blocks.ensures.missing;
  reported = c.blocks-in-Blocks.ensures.reported;
})

pub returns-in-Generate-clause-written : goal.returns-in-Generate-clause-written
returns-in-Generate-clause-written g c verdict none =
    generated_written c.generate.result
    (g.D.Desk.outside c.generate.new.desk) c.generate.ensures.statuses c.generate.ensures.written verdict

pub returns-in-RunGenerated-clause-asked : goal.returns-in-RunGenerated-clause-asked
returns-in-RunGenerated-clause-asked g c = rw c.in-RunGenerated.is c.run_generated.ensures.runs

pub returns-in-RunGenerated-clause-written : goal.returns-in-RunGenerated-clause-written
returns-in-RunGenerated-clause-written g c verdict none =
    run_written c.run_generated.result (g.D.Desk.outside c.run_generated.new.desk) c.run_generated.ensures.statuses
    c.run_generated.ensures.runs.written verdict

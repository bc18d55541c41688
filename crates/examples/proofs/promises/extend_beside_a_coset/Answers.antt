use Rattle.examples.proofs.promises.extend_beside_a_coset.Goals as goal

pub returns-clause-still : goal.returns-clause-still
returns-clause-still g c = c.lde_batch.ensures.engine.later.keeps_cosets c.args.log_h c.args.shift c.requires.prepared

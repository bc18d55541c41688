use Rattle.examples.proofs.promises.transform_on_known_coset.Goals as goal

pub returns-clause-ok : goal.returns-clause-ok
returns-clause-ok g c = c.coset_dft_batch.ensures.on_prepared c.args.log_h c.requires.height c.requires.prepared

pub returns-clause-still : goal.returns-clause-still
returns-clause-still g c = c.coset_dft_batch.ensures.engine.later.keeps_cosets c.args.log_h c.args.shift c.requires.prepared

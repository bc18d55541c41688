use Rattle.examples.proofs.promises.transform_on_new_coset.Goals as goal

pub returns-clause-prepared : goal.returns-clause-prepared
returns-clause-prepared g c = c.in_ok-coset_dft_batch.ensures.tables c.args.log_h c.requires.height

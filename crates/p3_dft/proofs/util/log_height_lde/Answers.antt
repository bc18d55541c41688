use Rattle.p3_dft.proofs.Lemmas.{refl, both_logs_fit, input_fits, output_size}
use Rattle.p3_dft.proofs.util.log_height_lde.Goals as goal

pub log_height-requires : goal.log_height-requires
log_height-requires g c = input_fits _ _ _ _ c.requires

pub returns : goal.returns
returns g c =
    let fit = both_logs_fit _ c.log_height.result c.requires c.log_height.ensures.power refl in
    record { within = fit.2; fits_u64 = fit.3; size = output_size _ _ _ _ c.requires; rows = c.log_height.ensures.rows }

use Rattle.p3_field.proofs.Lemmas.{◌∙◌, pick_l_left, pick_l_whole, range_with_len}
use Rattle.p3_field.proofs.residue31_x16.Residue31X16.halves.Goals as goal

pub returns : goal.returns
returns g c =
    let lanes = c.args.self.lanes in
    pick_l_left 0 lanes lanes 16 (range_with_len 0 16) c.args.self.sixteen tt ∙ pick_l_whole 0 lanes 16 c.args.self.sixteen

use Rattle.p3_dft.proofs.Calls.PreparedHeights.{counted_with_heights}
use Rattle.p3_dft.proofs.radix_2_small_batch.Radix2DFTSmallBatchTwoAdicSubgroupDft.add_products.Goals as goal

pub returns : goal.returns
returns g c = record { engine = counted_with_heights c.self.view_is c.add.ensures }

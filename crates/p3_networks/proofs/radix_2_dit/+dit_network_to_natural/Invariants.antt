use Rattle.p3_networks.proofs.radix_2_dit.+dit_network_to_natural.Given as goal

abbrev pub decreases-dit_network_to_natural : goal.decreases-dit_network_to_natural
decreases-dit_network_to_natural g l = l.log_h

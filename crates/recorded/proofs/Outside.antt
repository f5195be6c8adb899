-- The test of all rows from outside, those of other decoders (crates/rules/proofs/Recorded.antt) and those of the baker's oracle
-- (Bakings.antt there), which antt computes over the definitions that the readers and the baker promise. It takes longer than all the
-- rest of rules, and every edit of a definition there is a check of all of rules, so it stands by itself.
-- Assumes nothing.
use mathlib.Core.Bool.{◌&&◌}
use lib.Dec.{T}
use Rattle.numbers.specs.Numbers.{little}
use Rattle.rules.specs.Places.{needed, painted}
use Rattle.rules.specs.Answers.{first_of}
use Rattle.rules.specs.Colour.{differential, wrapped, kind_by_sums_lem, out_of_range_lem}
use Rattle.rules.specs.Modes.{t_bases, t_distance, h_bases, h_distance, planar_bases_lem, planar_channel, indexed}
use Rattle.rules.specs.Modes.{rgb_pixel, rgba1_pixel, etc1_pixel}
use Rattle.rules.specs.Channels.{alpha_step, alpha_byte, rgba8_pixel, eac_value, eac_byte, red_pixel, red_green_pixel}
use Rattle.rules.specs.Desktop.{bc1_pixel, bc3_alpha, bc3_pixel, bc2_alpha, bc2_pixel}
use Rattle.rules.specs.Rgtc.{half_byte, bc4_pixel, bc5_pixel}
use Rattle.rules.specs.Bptc.{two, three, anchor_of_two, anchor_of_three1, anchor_of_three2, subset, anchor}
use Rattle.rules.specs.Bc7.{mode_table, lowest, bits_before, pixel_in, bc7_pixel}
use Rattle.rules.specs.Formats.{size_of, shows_of}
use Rattle.rules.specs.Counting.{least_of_lem, sum_of, most_of, each, from_bits_lem}
use Rattle.rules.specs.Checking.{near, differ, farthest, check_verdict}
use Rattle.rules.specs.Baking.{shown, index_for, cost_for, code_for, block_with}
use Rattle.rules.proofs.Held.{verdict_of, paints, leaves, holds, every}
use Rattle.rules.proofs.Recorded.{recorded}
use Rattle.rules.proofs.Bakings.{base, eight, sixteen, bakes, least_sum, every as baked, specimens}

hold : T (every recorded && baked specimens)
unfolding every recorded verdict_of paints leaves holds needed painted first_of differential wrapped kind_by_sums_lem out_of_range_lem
    t_bases t_distance h_bases h_distance planar_bases_lem planar_channel indexed
    rgb_pixel rgba1_pixel etc1_pixel alpha_step alpha_byte rgba8_pixel eac_value eac_byte red_pixel red_green_pixel size_of shows_of
    little bc1_pixel bc3_alpha bc3_pixel bc2_alpha bc2_pixel half_byte bc4_pixel bc5_pixel
    two three anchor_of_two anchor_of_three1 anchor_of_three2 subset anchor mode_table lowest bits_before pixel_in bc7_pixel
    base eight sixteen bakes least_sum baked specimens least_of_lem sum_of most_of each from_bits_lem near differ farthest check_verdict shown index_for cost_for code_for block_with
hold = tt

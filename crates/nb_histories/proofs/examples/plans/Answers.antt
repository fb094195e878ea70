use Rattle.std.proofs.Common.{refl}
use Rattle.nb_histories.specs.Histories.{grows_when_a_path_is_crowded, a_removal_is_not_copied, copy_of_one_slot, stopped_copier, three_helpers, contended_once, contended_once_with_two_tries, filled_removed_refilled, plan_of_three, same_size_successor, add_contended_once, adds, full_in_the_middle, half_copied}
use Rattle.nb_histories.proofs.Accepted.{accepted-plan}
use Rattle.nb_histories.proofs.examples.plans.Goals as goal

pub returns : goal.returns
returns c = record {
  grows_when_a_path_is_crowded = accepted-plan grows_when_a_path_is_crowded.plan.exponents
      grows_when_a_path_is_crowded.plan.seats grows_when_a_path_is_crowded.plan.stripes refl;
  a_removal_is_not_copied = accepted-plan a_removal_is_not_copied.plan.exponents
      a_removal_is_not_copied.plan.seats a_removal_is_not_copied.plan.stripes refl;
  copy_of_one_slot = accepted-plan copy_of_one_slot.plan.exponents copy_of_one_slot.plan.seats
      copy_of_one_slot.plan.stripes refl;
  stopped_copier = accepted-plan stopped_copier.plan.exponents stopped_copier.plan.seats
      stopped_copier.plan.stripes refl;
  three_helpers = accepted-plan three_helpers.plan.exponents three_helpers.plan.seats
      three_helpers.plan.stripes refl;
  contended_once = accepted-plan contended_once.plan.exponents contended_once.plan.seats
      contended_once.plan.stripes refl;
  contended_once_with_two_tries = accepted-plan contended_once_with_two_tries.plan.exponents
      contended_once_with_two_tries.plan.seats contended_once_with_two_tries.plan.stripes refl;
  filled_removed_refilled = accepted-plan filled_removed_refilled.plan.exponents
      filled_removed_refilled.plan.seats filled_removed_refilled.plan.stripes refl;
  plan_of_three = accepted-plan plan_of_three.plan.exponents plan_of_three.plan.seats
      plan_of_three.plan.stripes refl;
  same_size_successor = accepted-plan same_size_successor.plan.exponents
      same_size_successor.plan.seats same_size_successor.plan.stripes refl;
  add_contended_once = accepted-plan add_contended_once.plan.exponents add_contended_once.plan.seats
      add_contended_once.plan.stripes refl;
  adds = accepted-plan adds.plan.exponents adds.plan.seats adds.plan.stripes refl;
  full_in_the_middle = accepted-plan full_in_the_middle.plan.exponents full_in_the_middle.plan.seats
      full_in_the_middle.plan.stripes refl;
  half_copied = accepted-plan half_copied.plan.exponents half_copied.plan.seats
      half_copied.plan.stripes refl;
}

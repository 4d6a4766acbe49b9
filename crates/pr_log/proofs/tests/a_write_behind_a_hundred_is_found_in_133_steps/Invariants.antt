use Rattle.pr_log.proofs.tests.a_write_behind_a_hundred_is_found_in_133_steps.Given as goal

abbrev pub ghosts-next_counted : goal.ghosts-next_counted
ghosts-next_counted g a = record { name = a.blank.name; parts = a.blank.parts }

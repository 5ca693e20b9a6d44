use Rattle.power_image.proofs.Cutting.{image_left, shape_left, tells_left}
use Rattle.power_image.proofs.laws.cut_changes_leave_an_image.Goals as goal

pub returns-clause-found : goal.returns-clause-found
returns-clause-found c g opening ds bytes left was is fits = image_left g opening ds bytes left was is fits

pub returns-clause-shape : goal.returns-clause-shape
returns-clause-shape c g opening ds bytes left was is = shape_left g opening ds bytes left was is

pub returns-clause-each : goal.returns-clause-each
returns-clause-each c g opening ds bytes left was is = tells_left g opening ds bytes left was is

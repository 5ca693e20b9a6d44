-- Why a program is refused.
use Rattle.log_model.specs.declared.selection.Refusal.{Refusal}
use Rattle.log_model.specs.declared.selection.Refusal.TheVariants as mount
use Rattle.command_model.specs.RefusalTexts as model
use Rattle.command_model.specs.RefusalTexts.Cause.{Words, DeviceFault, OutputFault, OutOfMemory, NotAnImage, ImageExists, BadGeometry, FsExists, NoMount, BadName, NotFound, NameExists, IdsEnd, SequenceEnd, MetaFull, NoSpace}
use Rattle.fs_report.specs.declared.status.Status.{Status}
use Rattle.fs_report.specs.declared.status.Status.TheVariants as status
use Rattle.fs_report.specs.declared.cause.Cause.{Cause}
use Rattle.fs_report.specs.declared.cause.Cause.TheVariants as own

-- the model's cause that one stands for
abbrev pub cause_meant : Cause → model.Cause
cause_meant own.Words = Words
cause_meant own.DeviceFault = DeviceFault
cause_meant own.OutputFault = OutputFault
cause_meant own.NoMemory = OutOfMemory
cause_meant own.NotAnImage = NotAnImage
cause_meant own.ImageExists = ImageExists
cause_meant own.BadGeometry = BadGeometry
cause_meant (own.FsExists zone) = FsExists zone
cause_meant (own.NoMount refusal) = NoMount refusal
cause_meant (own.BadName name) = BadName name.now
cause_meant (own.NotFound name) = NotFound name.now
cause_meant (own.NameExists name) = NameExists name.now
cause_meant own.IdsEnd = IdsEnd
cause_meant own.SequenceEnd = SequenceEnd
cause_meant (own.MetaFull need capacity) = MetaFull need capacity
cause_meant own.NoSpace = NoSpace

-- how a program ends where an image doesn't mount
abbrev pub mount_ending : Refusal → Status
mount_ending (mount.Damaged damage) = status.Damaged
mount_ending _ = status.Refused

-- how a program ends
abbrev pub ending : Cause → Status
ending own.Words = status.Words
ending own.DeviceFault = status.Fault
ending own.OutputFault = status.Fault
ending own.NoMemory = status.Memory
ending (own.NoMount refusal) = mount_ending refusal
ending _ = status.Refused

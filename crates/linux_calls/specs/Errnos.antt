-- The errors of Linux that calls answer beside those of the calls on files (errno(3), x86-64).
use Rattle.guest_files.specs.declared.errno.Errno.{Errno}

abbrev pub eperm : Errno
eperm = record { 0 = 1 }

abbrev pub enomem : Errno
enomem = record { 0 = 12 }

abbrev pub efault : Errno
efault = record { 0 = 14 }

abbrev pub enodev : Errno
enodev = record { 0 = 19 }

abbrev pub enotdir : Errno
enotdir = record { 0 = 20 }

abbrev pub enotty : Errno
enotty = record { 0 = 25 }

abbrev pub enametoolong : Errno
enametoolong = record { 0 = 36 }

abbrev pub enosys : Errno
enosys = record { 0 = 38 }

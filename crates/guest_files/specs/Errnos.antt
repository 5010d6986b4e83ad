-- The errors of Linux that the calls on files answer (errno(3), x86-64).
use Rattle.guest_files.specs.declared.errno.Errno.{Errno}

abbrev pub enoent : Errno
enoent = record { 0 = 2 }

abbrev pub ebadf : Errno
ebadf = record { 0 = 9 }

abbrev pub eacces : Errno
eacces = record { 0 = 13 }

abbrev pub eexist : Errno
eexist = record { 0 = 17 }

abbrev pub einval : Errno
einval = record { 0 = 22 }

abbrev pub emfile : Errno
emfile = record { 0 = 24 }

abbrev pub enospc : Errno
enospc = record { 0 = 28 }

abbrev pub espipe : Errno
espipe = record { 0 = 29 }

abbrev pub erofs : Errno
erofs = record { 0 = 30 }
